use Rattle.std.proofs.Common.{◌≡◌, ◌-◌, ◌^◌, min, take}
use Rattle.std.specs.Prelude.{sum_by}
use Rattle.tt_instance.specs.Courses.{lectures}
use Rattle.tt_leaf_rules.proofs.groups.all_lectures.Given as goal

abbrev pub invariant-loop-course : goal.invariant-loop-course
invariant-loop-course l = l.total ≡ min (sum_by (lectures l.instance) (take l.course-index l.courses)) (2 ^ 64 - 1)
