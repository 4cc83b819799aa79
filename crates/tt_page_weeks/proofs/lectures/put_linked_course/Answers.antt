use Rattle.tt_page_weeks.specs.Lectures.{linked_course}
use Rattle.tt_page_weeks.proofs.lectures.put_linked_course.Goals as goal

pub returns : goal.returns
unfolding linked_course
returns c = rw (← c.course_name-name.ensures) c.put.ensures
