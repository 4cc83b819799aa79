use Rattle.std.proofs.Common.{[], ◌∷◌, codes, refl}
use Rattle.tt_text.specs.Pieces.{Text}
use Rattle.tt_proof_read.specs.Spelling.{course_piece}
use Rattle.tt_proof_write.proofs.ByteLaws.{pieces_counted}
use Rattle.tt_proof_write.proofs.bytes.courses_bytes.Goals as goal

pub returns : goal.returns
returns c = pieces_counted course_piece c.args.courses.now c.loop-course.course-index 2 c.loop-course.total
    (Text (codes ";") ∷ []) c.loop-course.invariant c.loop-course-test.false refl
