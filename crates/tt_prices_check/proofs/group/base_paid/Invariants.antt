use Rattle.std.proofs.Common.{◌≡◌, ◌-◌, ◌*◌, ◌≤◌, take}
use Rattle.std.specs.Prelude.{sum_by}
use Rattle.tt_instance.specs.Courses.{lectures, min_days}
use Rattle.tt_prices_check.proofs.group.base_paid.Given as goal

abbrev pub invariant-loop-course : goal.invariant-loop-course
invariant-loop-course l = record {
  value : l.points ≡ sum_by (λ c. 5 * (min_days l.instance c - lectures l.instance c)) (take l.course-index l.group.courses.items);
  small : l.points ≤ 5 * 512 * l.course-index;
}
