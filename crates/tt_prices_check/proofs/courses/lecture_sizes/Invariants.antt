use Rattle.std.proofs.Common.{◌≡◌, ◌+◌, map, not, take}
use Rattle.std.specs.Prelude.{filter}
use Rattle.tt_list_laws.specs.Words.{has_number}
use Rattle.tt_instance.specs.Courses.{lectures}
use Rattle.tt_prices_check.proofs.courses.lecture_sizes.Given as goal

abbrev pub invariant-loop-course : goal.invariant-loop-course
invariant-loop-course l =
    l.sizes.items ≡ map (λ c. lectures l.instance c + 1) (filter (λ c. not (has_number l.group.uncounted.items c))
    (take l.course-index l.courses))
