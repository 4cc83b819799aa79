use Rattle.std.proofs.Common.{◌≡◌, ℕ, false, ◌&&◌, length, map, slice_index_or, nat_lt}
use Rattle.std.specs.Prelude.{◌==◌}
use Rattle.tt_instance_read.proofs.conflicts.marks_of_teacher.Given as goal

abbrev pub invariant-loop-course : goal.invariant-loop-course
invariant-loop-course l = record {
  len : length l.marks ≡ length l.courses;
  marked : (k : ℕ) → slice_index_or l.marks k false ≡
      (nat_lt k l.course && slice_index_or (map (λ r. r.teacher == l.teacher) l.courses) k false);
}
