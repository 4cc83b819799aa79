use Rattle.std.proofs.Common.{◌≡◌, ◌+◌, ◌++◌, map, take}
use Rattle.tt_instance.specs.Courses.{lectures}
use Rattle.tt_groups.specs.Plans.{slack}
use Rattle.tt_groups_check.proofs.courses.sizes_of.Given as goal

abbrev pub invariant-loop-course : goal.invariant-loop-course
invariant-loop-course l = l.sizes.items ≡ map (λ c. lectures l.instance c + 1) (take l.course-index l.courses)

abbrev pub invariant-loop-course-2 : goal.invariant-loop-course-2
invariant-loop-course-2 l = l.sizes.items ≡ map (λ c. lectures l.instance c + 1) l.courses ++ map (λ c. slack l.instance c + 1)
    (take l.course-index l.group.courses)
