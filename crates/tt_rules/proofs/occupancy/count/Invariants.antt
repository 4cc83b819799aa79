use Rattle.std.proofs.Common.{◌≡◌, ◌≤◌, ◌*◌, ◌-◌}
use Rattle.std.specs.Prelude.{sum_by}
use Rattle.tt_list_laws.specs.Words.{range_below}
use Rattle.tt_instance.specs.Cells.{all_slots}
use Rattle.tt_rules.specs.Hard.{entries_in}
use Rattle.tt_rules.proofs.occupancy.count.Given as goal

abbrev pub invariant-loop-room : goal.invariant-loop-room
invariant-loop-room l = record {
  summed : l.total ≡ sum_by (λ r. sum_by (λ s. entries_in l.by_room.entries r s - 1) (all_slots l.instance)) (range_below l.room);
  at_most : l.total ≤ l.room * 16384;
}
