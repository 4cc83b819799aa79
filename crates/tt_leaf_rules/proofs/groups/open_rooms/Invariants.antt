use Rattle.std.proofs.Common.{◌≡◌, ◌≤◌, ◌*◌, take}
use Rattle.std.specs.Prelude.{sum_by}
use Rattle.tt_instance.specs.Cells.{all_slots}
use Rattle.tt_leaf_rules.specs.Inner.Nested.{open_in_period}
use Rattle.tt_leaf_rules.proofs.groups.open_rooms.Given as goal

abbrev pub invariant-loop-place : goal.invariant-loop-place
invariant-loop-place g l =
    let p = g.P.Path.problem l.path in
    record {
      summed : l.total ≡ sum_by (open_in_period p (g.P.Path.facts l.path) l.courses) (take l.place (all_slots p));
      at_most : l.total ≤ l.place * 512;
    }
