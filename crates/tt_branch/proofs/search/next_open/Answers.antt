use Rattle.std.proofs.Common.{◌<◌, ◌∙◌, length, sym, subst, arith}
use Rattle.std.proofs.lemmas.Bool.{not-false}
use Rattle.std.specs.Prelude.{IfSome, IsNone}
use Rattle.tt_branch.specs.Inner.Growing.{IsOpenAt, is_open}
use Rattle.tt_branch.proofs.Nexts.{open_here, none_more}
use Rattle.tt_branch.proofs.search.next_open.Goals as goal
use Rattle.tt_branch.proofs.search.next_open.Goals.{then-is_next, else-is_next}

pub loop-place-preserved : goal.loop-place-preserved
loop-place-preserved c =
    let tree_nodes = c.args.tree_nodes.now in
    let place = c.loop-place.place in
    let e = c.index-tree_nodes-place.result in
    let h : place < length tree_nodes = omega arith in
    elim c.if-is_next.branch [
      | then-is_next w ↦ record {
        some = subst (λ o. IfSome o (IsOpenAt tree_nodes)) (sym w.found-is)
            (open_here tree_nodes place e h c.index-tree_nodes-place.is (c.is_next.ensures.open w.if-is_next.true));
        none = λ n. let z = subst IsNone w.found-is n in cc;
      }
      | else-is_next w ↦ record {
        some = subst (λ o. IfSome o (IsOpenAt tree_nodes)) (sym w.found-is) c.loop-place.invariant.some;
        none = λ n. let m = subst IsNone w.found-is n in
            none_more (λ k. is_open k.mark) tree_nodes place e h c.index-tree_nodes-place.is (c.loop-place.invariant.none m)
            (c.is_next.ensures.first (not-false c.is_none.result (sym c.is_none.ensures ∙ m)) w.if-is_next.false);
      }
    ]
