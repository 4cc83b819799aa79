use Rattle.std.proofs.Common.{◌≡◌, map, take}
use Rattle.std.specs.Prelude.{◌==◌}
use Rattle.tt_instance_read.proofs.conflicts.teacher_rows.Given as goal

abbrev pub invariant-loop-course : goal.invariant-loop-course
invariant-loop-course l = l.rows.items ≡ map (λ x. map (λ r. r.teacher == x.teacher) l.courses) (take l.course-index l.courses)
