use Rattle.std.proofs.Common.{◌≡◌, ◌≤◌}
use Rattle.std.specs.Prelude.{count_by}
use Rattle.tt_list_laws.specs.Words.{range_below}
use Rattle.tt_groups.specs.Group.{concerns}
use Rattle.tt_groups_check.proofs.width.courses_count.Given as goal

abbrev pub invariant-loop-course : goal.invariant-loop-course
invariant-loop-course l = record {
  count : l.count ≡ count_by (concerns l.instance l.group) (range_below l.course);
  at_most : l.count ≤ l.course;
}
