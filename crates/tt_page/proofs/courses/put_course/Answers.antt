use Rattle.tt_page.specs.Courses.{course_row}
use Rattle.tt_page_text.proofs.Growing.{then_put}
use Rattle.tt_page.proofs.courses.put_course.Goals as goal

pub returns : goal.returns
unfolding course_row
returns c =
    let teacher = rw c.instance.ensures at c.put_teacher_link.ensures in
    then_put _ _ _ _ _
    (then_put _ _ _ _ _
    (then_put _ _ _ _ _
    (then_put _ _ _ _ _
    (then_put _ _ _ _ _ (then_put _ _ _ _ _ c.put_course_head.ensures teacher) c.put_course_numbers.ensures)
    c.put_rooms.ensures) c.put_token.ensures) c.put_course_marks.ensures) c.put_token-2.ensures
