use Rattle.tt_page_weeks.specs.Lectures.{plain_course}
use Rattle.tt_page_weeks.proofs.lectures.put_plain_course.Goals as goal

pub returns : goal.returns
unfolding plain_course
returns c = rw (← c.course_name-name.ensures) c.put.ensures
