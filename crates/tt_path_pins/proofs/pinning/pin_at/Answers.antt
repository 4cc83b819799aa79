use Rattle.std.proofs.Common.{Some, arith}
use Rattle.tt_path_pins.proofs.Pinned.{no_such_course}
use Rattle.tt_path_pins.proofs.pinning.pin_at.Goals as goal

pub returns-else-course-courses-clause-ok : goal.returns-else-course-courses-clause-ok
returns-else-course-courses-clause-ok c =
    rw c.in-Course.is (no_such_course c.args.instance.now c.args.table.now.words c.in-Course.course (Some c.args.day)
    (Some c.args.period) c.requires.valid (omega arith))
