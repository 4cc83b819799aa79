use Rattle.std.proofs.Common.{◌≡◌, ◌+◌, [], ◌∷◌, length, take}
use Rattle.std.specs.List.{flat_map}
use Rattle.tt_proof_read.specs.Spelling.{course_piece}
use Rattle.tt_proof_write.specs.Inner.Bytes.{clipped}
use Rattle.tt_proof_write.specs.Written.{tail_text}
use Rattle.tt_proof_write.proofs.bytes.courses_bytes.Given as goal

abbrev pub invariant-loop-course : goal.invariant-loop-course
invariant-loop-course l = l.total ≡ clipped (2 + length (flat_map (λ c. tail_text (course_piece c ∷ [])) (take l.course-index l.courses)))
