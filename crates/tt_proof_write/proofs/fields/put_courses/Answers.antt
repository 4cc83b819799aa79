use Rattle.std.proofs.Common.{refl, [], ◌∷◌}
use Rattle.std.proofs.lemmas.Result.{IfOk-equal}
use Rattle.tt_proof_read.specs.Spelling.{course_piece}
use Rattle.tt_proof_write.specs.Inner.Numbers.{IsNarrow}
use Rattle.tt_proof_write.specs.Written.{tail_text}
use Rattle.tt_proof_write.proofs.TextLaws.{pieces_written, pieces_behind, one_more}
use Rattle.tt_proof_write.proofs.fields.put_courses.Goals as goal
use Rattle.tt_list_laws.proofs.Beginnings.{All_more}

pub loop-course-preserved : goal.loop-course-preserved
loop-course-preserved c = record {
  text = one_more (λ n. tail_text (course_piece n ∷ [])) c.args.courses.now c.loop-course.course-index 0 _ c.args.out.now.items
      c.loop-course.out.items c.put_index.new.out.items c.loop-course-test.true refl c.loop-course.invariant.text
      c.in_ok-put_index.ensures.text;
  narrow = All_more IsNarrow c.args.courses.now c.loop-course.course-index 0 _ c.loop-course-test.true refl
      c.loop-course.invariant.narrow c.in_ok-put_index.ensures.narrow;
}

pub returns-clause-text : goal.returns-clause-text
returns-clause-text c =
    IfOk-equal c.put_next_token.result _ _ _ c.put_next_token.ensures.ok
    (pieces_behind _ _ _ _ _
    (pieces_written course_piece c.args.courses.now c.loop-course.course-index c.args.out.now.items c.loop-course.out.items
    c.loop-course.invariant.text c.loop-course-test.false) refl)
