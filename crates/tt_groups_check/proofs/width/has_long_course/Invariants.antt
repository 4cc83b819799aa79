use Rattle.std.proofs.Common.{◌≡◌, false, ◌&&◌}
use Rattle.std.specs.Prelude.{nat_lt}
use Rattle.std.specs.List.{list_any}
use Rattle.tt_list_laws.specs.Words.{range_below}
use Rattle.tt_instance.specs.Courses.{lectures}
use Rattle.tt_groups.specs.Group.{concerns}
use Rattle.tt_groups_check.proofs.width.has_long_course.Given as goal

abbrev pub invariant-loop-course : goal.invariant-loop-course
invariant-loop-course l = list_any (λ c. concerns l.instance l.group c && nat_lt 255 (lectures l.instance c)) (range_below l.course) ≡ false
