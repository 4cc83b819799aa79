use Rattle.std.proofs.Common.{◌≡◌, [], ◌∷◌, ◌++◌, take, All}
use Rattle.std.specs.List.{flat_map}
use Rattle.tt_proof_read.specs.Spelling.{course_piece}
use Rattle.tt_proof_write.specs.Inner.Numbers.{IsNarrow}
use Rattle.tt_proof_write.specs.Written.{tail_text}
use Rattle.tt_proof_write.proofs.fields.put_courses.Given as goal

abbrev pub invariant-loop-course : goal.invariant-loop-course
invariant-loop-course l = record {
  text : l.out.items ≡ l.initial.out.items ++ flat_map (λ c. tail_text (course_piece c ∷ [])) (take l.course-index l.courses);
  narrow : All IsNarrow (take l.course-index l.courses);
}
