use Rattle.std.proofs.Common.{◌≡◌, ◌≤◌, ◌*◌, take}
use Rattle.std.specs.Prelude.{sum_by}
use Rattle.tt_instance.specs.Courses.{excess}
use Rattle.tt_rules.proofs.capacity.students_without_seat.Given as goal

abbrev pub invariant-loop-entry : goal.invariant-loop-entry
invariant-loop-entry l = record {
  summed : l.total ≡ sum_by (λ e. excess l.instance e.course e.room) (take l.entry-index l.entries);
  at_most : l.total ≤ l.entry-index * 1000000;
}
