use Rattle.std.proofs.Common.{◌≡◌, false, take}
use Rattle.std.specs.Prelude.{nat_lt}
use Rattle.std.specs.List.{list_any}
use Rattle.tt_instance.specs.Courses.{lectures}
use Rattle.tt_prices_check.proofs.width.has_long_course.Given as goal

abbrev pub invariant-loop-course : goal.invariant-loop-course
invariant-loop-course l = list_any (λ c. nat_lt 253 (lectures l.instance c)) (take l.course-index l.courses) ≡ false
