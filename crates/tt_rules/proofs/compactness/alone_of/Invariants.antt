use Rattle.std.proofs.Common.{◌≡◌, ◌≤◌, ◌*◌, ◌&&◌, take}
use Rattle.std.specs.Prelude.{sum_by, count_by}
use Rattle.tt_instance.specs.Cells.{is_of}
use Rattle.tt_rules.specs.Inner.Places.{is_alone}
use Rattle.tt_rules.proofs.compactness.alone_of.Given as goal

abbrev pub invariant-loop-course : goal.invariant-loop-course
invariant-loop-course l = record {
  summed : l.total ≡ sum_by (λ c. count_by (λ e. is_of c e && is_alone l.instance l.taught e) l.by_course.entries)
      (take l.course-index l.courses);
  at_most : l.total ≤ l.course-index * 16384;
}
