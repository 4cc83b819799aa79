use Rattle.std.proofs.Common.{◌≡◌, ◌≤◌, ◌*◌}
use Rattle.std.specs.Prelude.{sum_by}
use Rattle.tt_list_laws.specs.Words.{range_below}
use Rattle.tt_rules.specs.Hard.{lectures_off}
use Rattle.tt_rules.proofs.lectures.count.Given as goal

abbrev pub invariant-loop-course : goal.invariant-loop-course
invariant-loop-course l = record {
  summed : l.total ≡ sum_by (lectures_off l.instance l.by_course.entries) (range_below l.course);
  at_most : l.total ≤ l.course * 65536;
}
