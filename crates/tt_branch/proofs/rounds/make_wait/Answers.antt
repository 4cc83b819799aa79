use Rattle.std.proofs.Common.{refl, sym, ap, ◌∙◌}
use Rattle.std.proofs.lemmas.Option.{get_or_from_slice_get}
use Rattle.tt_branch.specs.declared.tree_node.TreeNode.{TreeNode}
use Rattle.tt_branch.specs.Inner.Growing.{is_open}
use Rattle.tt_branch.proofs.Advancing.{waits_split, waits_second, waits_same}
use Rattle.tt_branch.proofs.rounds.make_wait.Goals as goal

pub returns-then-second_first : goal.returns-then-second_first
returns-then-second_first c =
    record { made = waits_second c.args.place c.in-Some.pattern c.args.search.now c.split.new.search c.in_ok-split-in-Some.ensures }

pub returns-else-second_first : goal.returns-else-second_first
returns-else-second_first c =
    record { made = waits_split c.args.place c.in-Some.pattern c.args.search.now c.split.new.search c.in_ok-split-in-Some.ensures }

pub returns-in-None : goal.returns-in-None
returns-in-None c =
    let e = c.requires.0 in
    let read = c.index.result.now in
    let same = ap (λ (x : TreeNode). x.mark)
    (c.index.ensures ∙ get_or_from_slice_get c.args.search.now.tree_nodes.items c.args.place e read c.requires.1) in
    let waits = c.in-None.ensures.none refl (ap is_open same ∙ c.requires.2) in
    record { made = waits_same c.args.place c.args.search.now (e, c.requires.1, sym same ∙ waits) }
