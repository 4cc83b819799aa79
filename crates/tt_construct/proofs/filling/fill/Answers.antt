use Rattle.std.proofs.Common.{arith}
use Rattle.tt_construct.proofs.Filled.{few_more, filled_more}
use Rattle.tt_construct.proofs.filling.fill.Goals as goal

pub add_course-requires-clause-at_most : goal.add_course-requires-clause-at_most
add_course-requires-clause-at_most c =
    few_more c.args.instance.now c.loop-course.course c.loop-course.table c.days.ensures.instance c.loop-course.invariant (omega arith)

pub loop-course-preserved : goal.loop-course-preserved
loop-course-preserved c =
    filled_more c.args.instance.now c.loop-course.course c.loop-course.table c.add_course.new.table c.loop-course.invariant
    (omega arith) c.in_ok-add_course.ensures
