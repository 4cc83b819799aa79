use Rattle.std.proofs.Common.{List, Option, refl, sym, ap, ◌∙◌, subst}
use Rattle.std.specs.Prelude.{All}
use Rattle.std.proofs.lemmas.Bool.{not_from_false}
use Rattle.tt_instance.specs.Limits.{IsInstance}
use Rattle.tt_instance.specs.declared.cell.Cell.{Cell}
use Rattle.tt_path.specs.Live.{least}
use Rattle.tt_leaf.specs.declared.leaf.Bound.{Bound}
use Rattle.tt_branch.specs.declared.tree_node.TreeNode.{TreeNode}
use Rattle.tt_branch.specs.declared.links.Link.{Link}
use Rattle.tt_branch.specs.Inner.Growing.{nodes_of, worths_of}
use Rattle.tt_branch.specs.Inner.BestSoFar.{table_of}
use Rattle.tt_branch.specs.Inner.Links.{AreLinks}
use Rattle.tt_branch.specs.Outcomes.{IsOutcome}
use Rattle.tt_branch.specs.Inner.Written.{IsWritable}
use Rattle.tt_branch.proofs.Concluding.{writable, few_ended, concluded}
use Rattle.tt_branch.proofs.solving.conclude.Goals as goal

pub write_nodes-requires : goal.write_nodes-requires
write_nodes-requires g c = λ κs.
    let p = g.P.Path.problem c.args.path.now in
    let s = c.args.search in
    let ok = subst IsInstance c.instance.ensures c.days.ensures.instance in
    let root = c.args.root.now in
    let at_most = few_ended root c.args.ending.opened s.tree_nodes.items c.args.ending.finished c.requires.at_most c.requires.ends in
    let links = sym c.as_slice.ensures.value in
    let each = writable p ok root (table_of s.best) s.links.items s.tree_nodes.items c.requires.under_way.grown at_most in (
      (refl, tt),
      (
        c.requires.rooted,
        (
          subst AreLinks links c.requires.under_way.links,
          subst (All (IsWritable p root c.as_slice.result.now)) (sym c.as_slice-2.ensures.value)
              (subst (λ (l : List Link). All (IsWritable p root l) s.tree_nodes.items) links each),
        ),
      ),
    )

pub returns : goal.returns
returns g c =
    let p = g.P.Path.problem c.args.path.now in
    let s = c.args.search in
    let root = c.args.root.now in
    let e = c.args.ending in
    let ok = subst IsInstance c.instance.ensures c.days.ensures.instance in
    let links = c.as_slice.ensures.value in
    let items = c.as_slice-2.ensures.value in
    let nodes = c.in_ok-nodes.field-0.nodes.items in
    let lowest = c.in_ok-nodes.field-0.least in
    let is = c.in_ok-nodes.ensures.nodes ∙ ap (λ (l : List Link). nodes_of p root l c.as_slice-2.result.now) links
    ∙ ap (nodes_of p root s.links.items) items in
    let shown = c.shown-bound.ensures p c.requires.under_way.kept in
    λ given begun.
    let done = concluded p ok root s c.requires.under_way e.opened c.requires.at_most nodes is given e.finished lowest begun
    c.requires.ends
    (λ f. c.in_ok-nodes.ensures.least (not_from_false e.finished f)
    ∙ ap (λ (l : List Link). least (worths_of p root l c.as_slice-2.result.now)) links
    ∙ ap (λ (es : List TreeNode). least (worths_of p root s.links.items es)) items) in
    subst (λ (t : Option (List Cell)). IsOutcome p root given e.opened t c.shown-bound.result nodes e.finished) (sym c.table_in.ensures)
    (subst (λ (b : Bound). IsOutcome p root given e.opened (table_of s.best) b nodes e.finished) (sym shown) done)
