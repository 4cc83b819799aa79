use Rattle.std.proofs.Common.{◌≡◌, ◌+◌, ◌++◌, map, take}
use Rattle.tt_groups.specs.Plans.{slack}
use Rattle.tt_prices_check.proofs.courses.add_slacks.Given as goal

abbrev pub invariant-loop-course : goal.invariant-loop-course
invariant-loop-course l = l.sizes.items ≡ l.initial.sizes.items ++ map (λ c. slack l.instance c + 1)
    (take l.course-index l.group.courses.items)
