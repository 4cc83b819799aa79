use Rattle.std.proofs.Common.{◌∙◌, ap, length, arith}
use Rattle.std.proofs.lemmas.List.{length-map}
use Rattle.tt_instance.specs.Seen.{course_seen, courses_seen}
use Rattle.std.proofs.lemmas.Result.{err_from_is_err_and}
use Rattle.tt_instance_read.proofs.Steps.{reads_on, reads_fail, reads_end}
use Rattle.tt_instance_read.proofs.Repeating.{courses_repeat}
use Rattle.tt_instance_read.proofs.courses.read_courses.Goals as goal

pub returns-in_err-read_course-clause-read : goal.returns-in_err-read_course-clause-read
returns-in_err-read_course-clause-read c =
    let p = err_from_is_err_and c.from_residual.result c.from_residual.ensures.1 in
    rw (p.1, p.2)
    (reads_fail _ _ (courses_repeat c.args.end) c.in_err-read_course.field-0.0 c.args.count c.loop.counter _ _ _ c.loop-test.true
    c.in_err-read_course.ensures.read c.loop.invariant.read)

pub loop-preserved : goal.loop-preserved
loop-preserved c = record {
  read = reads_on _ _ (courses_repeat c.args.end) c.args.count c.loop.counter _ _ _ _ _ c.loop-test.true
      c.in_ok-read_course.ensures.read c.loop.invariant.read;
  indexed = c.in_ok-read_course.ensures.indexed;
  len = c.in_ok-read_course.ensures.one_more ∙ omega arith;
}

pub returns-clause-read : goal.returns-clause-read
returns-clause-read c = reads_end _ _ (courses_repeat c.args.end) c.args.count c.loop.counter _ _ _ c.loop-test.false c.loop.invariant.read

pub returns-clause-each : goal.returns-clause-each
returns-clause-each c =
    let rows = c.loop.list.rows.items in
    ap length c.loop.invariant.indexed.ids_are ∙ length-map (courses_seen rows) (λ x. x.id) ∙ length-map rows course_seen
