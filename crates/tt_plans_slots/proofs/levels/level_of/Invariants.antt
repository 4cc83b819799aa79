use Rattle.std.proofs.Common.{◌≡◌, ◌≤◌}
use Rattle.std.specs.Prelude.{◌==◌, count_by}
use Rattle.tt_list_laws.specs.Words.{range_below}
use Rattle.tt_instance.specs.Courses.{excess}
use Rattle.tt_plans_slots.proofs.levels.level_of.Given as goal

abbrev pub invariant-loop-room : goal.invariant-loop-room
invariant-loop-room l = record {
  counted : l.count ≡ count_by (λ r. excess l.instance l.course r == l.least) (range_below l.room);
  few : l.count ≤ l.room;
}
