use Rattle.std.proofs.Common.{◌≡◌, false, List, refl, rules, sym, subst, ◌∙◌, arith}
use Rattle.std.specs.Prelude.{IfSome, IsNone}
use Rattle.std.specs.List.{list_any}
use Rattle.tt_instance.specs.Problem.{Problem}
use Rattle.tt_branch.specs.declared.tree_node.TreeNode.{TreeNode}
use Rattle.tt_branch.specs.Inner.Growing.{is_open, IsOpenAt}
use Rattle.tt_branch.specs.Inner.BestSoFar.{Advances}
use Rattle.tt_branch.specs.Inner.State.{IsUnderWay}
use Rattle.tt_branch.proofs.Advancing.{advance_twice, ends_closed, ends_by, ends_early}
use Rattle.tt_branch.proofs.rounds.grow.Goals as goal

pub returns-in_default-clause-ends : goal.returns-in_default-clause-ends
returns-in_default-clause-ends g c =
    let tree_nodes = c.loop-opened.search.tree_nodes.items in
    let none : IsNone c.next_open.result = search rules in
    let closed = subst (λ (l : List TreeNode). list_any (λ e. is_open e.mark) l ≡ false) c.as_slice.ensures.value
    (c.next_open.ensures.none none) in
    ends_closed c.args.limit c.loop-opened.opened tree_nodes c.loop-opened.invariant.opened (omega arith) closed

pub returns-then-is_over-clause-ends : goal.returns-then-is_over-clause-ends
returns-then-is_over-clause-ends g c =
    let tree_nodes = c.loop-opened.search.tree_nodes.items in
    let i = c.loop-opened.invariant in
    ends_early c.loop-opened.opened tree_nodes c.in-Some.place
    (subst (λ (l : List TreeNode). IsOpenAt l c.in-Some.place) c.as_slice.ensures.value c.in-Some.ensures.open) i.opened i.at_most

pub give_if_asked-requires : goal.give_if_asked-requires
give_if_asked-requires g c = λ κs.
    let i = c.loop-opened.invariant in
    let root = c.args.root.now in (
      (refl, tt),
      (
        i.rooted,
        (subst (λ (q : Problem). IsUnderWay q root c.loop-opened.search) (sym i.same) i.under_way, omega (arith, i.at_most)),
      ),
    )

pub loop-opened-preserved : goal.loop-opened-preserved
loop-opened-preserved g c =
    let p = g.P.Path.problem c.args.path.now in
    let i = c.loop-opened.invariant in
    let e = c.in_ok-open_next.ensures in
    let same = c.in_ok-give_if_asked.ensures.unchanged ∙ i.same in
    let new = c.open_next.new.search in
    record {
      same = e.unchanged ∙ same;
      rooted = e.rooted;
      under_way = subst (λ (q : Problem). IsUnderWay q c.args.root.now new) same e.under_way;
      better = advance_twice p c.args.root.now c.args.search.now.best c.loop-opened.search.best new.best i.better
          (subst (λ (q : Problem). Advances q c.args.root.now c.loop-opened.search.best new.best) same e.better);
      opened = omega (arith, e.opened, i.opened);
      at_most = omega (arith, e.many, i.at_most);
    }

pub returns-clause-ends : goal.returns-clause-ends
returns-clause-ends g c =
    let tree_nodes = c.loop-opened.search.tree_nodes.items in
    let value = c.as_slice-2.ensures.value in
    ends_by c.args.limit tree_nodes c.next_open-2.result c.is_none.result c.is_none.ensures
    (subst (λ (l : List TreeNode). IfSome c.next_open-2.result (IsOpenAt l)) value c.next_open-2.ensures.open)
    (subst (λ (l : List TreeNode). IsNone c.next_open-2.result → list_any (λ e. is_open e.mark) l ≡ false) value c.next_open-2.ensures.none)
    (omega (arith, c.loop-opened.invariant.opened)) (omega (arith, c.loop-opened.invariant.at_most))
