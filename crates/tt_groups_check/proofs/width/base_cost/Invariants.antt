use Rattle.std.proofs.Common.{◌≡◌, ◌*◌, ◌-◌, ◌≤◌, take}
use Rattle.std.specs.Prelude.{sum_by}
use Rattle.tt_instance.specs.Courses.{lectures, min_days}
use Rattle.tt_groups_check.proofs.width.base_cost.Given as goal

abbrev pub invariant-loop-course : goal.invariant-loop-course
invariant-loop-course l = record {
  sum : l.base ≡ sum_by (λ c. 5 * (min_days l.instance c - lectures l.instance c)) (take l.course-index l.group.courses);
  small : l.base ≤ 2560 * l.course-index;
}
