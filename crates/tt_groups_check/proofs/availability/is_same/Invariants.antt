use Rattle.std.proofs.Common.{take}
use Rattle.tt_groups_check.specs.Availability.{IsSameAvailability}
use Rattle.tt_groups_check.proofs.availability.is_same.Given as goal

abbrev pub invariant-loop-course : goal.invariant-loop-course
invariant-loop-course l = IsSameAvailability l.instance (take l.course-index l.courses) l.day l.other
