use Rattle.tt_page_weeks.specs.Lectures.{marks_text}
use Rattle.tt_page_text.proofs.Growing.{then_put}
use Rattle.tt_page_weeks.proofs.lectures.put_marks.Goals as goal

pub returns : goal.returns
unfolding marks_text
returns c =
    let conflict = rw c.is_in_conflict.ensures at c.put_mark.ensures in
    let barred = rw (c.is_unavailable.ensures, c.instance-instance.ensures) at c.put_mark-2.ensures in
    let taken = rw c.is_room_taken.ensures at c.put_mark-3.ensures in
    let again = rw c.is_repeated.ensures at c.put_mark-4.ensures in
    let seats = rw (c.without_seat.ensures.value, c.instance-instance.ensures) at c.put_counted.ensures in
    then_put _ _ _ _ _ (then_put _ _ _ _ _ (then_put _ _ _ _ _ (then_put _ _ _ _ _ (then_put _ _ _ _ _ (then_put _ _ _ _ _
    conflict barred) taken) again) c.put_isolated.ensures) seats) (rw c.is_in_other_room.ensures at c.put_mark-5.ensures)
