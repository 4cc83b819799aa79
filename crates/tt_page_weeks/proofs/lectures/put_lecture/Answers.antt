use Rattle.tt_page_weeks.specs.Lectures.{lecture_text}
use Rattle.tt_page_text.proofs.Growing.{then_put}
use Rattle.tt_page_weeks.proofs.lectures.put_lecture.Goals as goal

pub returns : goal.returns
unfolding lecture_text
returns c =
    let course = rw c.instance-instance.ensures at c.put_lecture_course.ensures in
    let beside = rw c.instance-instance.ensures at c.put_further.ensures in
    then_put _ _ _ _ _
    (then_put _ _ _ _ _
    (then_put _ _ _ _ _ (then_put _ _ _ _ _ (then_put _ _ _ _ _ c.put_lecture_head.ensures c.put_lecture_when.ensures) course)
    beside) c.put_marks.ensures) c.put_token.ensures
