use Rattle.tt_page.specs.Courses.{course_marks}
use Rattle.tt_page_text.proofs.Growing.{then_put}
use Rattle.tt_page.proofs.courses.put_course_marks.Goals as goal

pub returns : goal.returns
unfolding course_marks
returns c =
    let lectures = rw c.lectures_off-lectures.ensures at c.put_counted.ensures in
    let days = rw c.missing_days-days.ensures.days at c.put_counted-2.ensures in
    then_put _ _ _ _ _ (then_put _ _ _ _ _ lectures days) (rw c.other_rooms-rooms.ensures.rooms at c.put_counted-3.ensures)
