use Rattle.tt_page.specs.Courses.{course_head}
use Rattle.tt_page.proofs.courses.put_course_head.Goals as goal

pub returns : goal.returns
unfolding course_head
returns c = rw (c.course_name-name.ensures, c.instance.ensures) at c.put.ensures
