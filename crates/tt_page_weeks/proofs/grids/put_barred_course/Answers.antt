use Rattle.tt_page_weeks.specs.Grids.{barred_course}
use Rattle.tt_page_weeks.proofs.grids.put_barred_course.Goals as goal

pub returns : goal.returns
unfolding barred_course
returns c = rw (← c.course_name-name.ensures) c.put.ensures
