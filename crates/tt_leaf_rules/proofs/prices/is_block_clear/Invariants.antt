use Rattle.std.proofs.Common.{◌≡◌, true, take}
use Rattle.std.specs.List.{list_all}
use Rattle.tt_instance.specs.Cells.{all_slots}
use Rattle.tt_leaf_rules.specs.Inner.Nested.{clear_in}
use Rattle.tt_leaf_rules.proofs.prices.is_block_clear.Given as goal

abbrev pub invariant-loop-place : goal.invariant-loop-place
invariant-loop-place g l =
    let p = g.P.Path.problem l.path in
    list_all (clear_in p (g.P.Path.facts l.path) l.course l.block l.rooms) (take l.place (all_slots p)) ≡ true
