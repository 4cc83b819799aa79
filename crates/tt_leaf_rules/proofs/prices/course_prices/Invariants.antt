use Rattle.std.proofs.Common.{◌≡◌, ◌≤◌, ◌*◌, ◌^◌, take}
use Rattle.std.specs.Prelude.{sum_by}
use Rattle.tt_instance.specs.Courses.{lectures}
use Rattle.tt_leaf_rules.proofs.prices.course_prices.Given as goal

abbrev pub invariant-loop-course : goal.invariant-loop-course
invariant-loop-course l = record {
  summed : l.total ≡ sum_by (λ k. lectures l.instance k.0 * k.1) (take l.course-index l.courses);
  at_most : l.total ≤ l.course-index * 2 ^ 44;
}
