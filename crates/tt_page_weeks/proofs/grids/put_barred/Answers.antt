use Rattle.tt_page_weeks.specs.Grids.{barred_text}
use Rattle.tt_page_text.proofs.Growing.{then_put}
use Rattle.tt_page_weeks.proofs.grids.put_barred.Goals as goal

pub returns : goal.returns
unfolding barred_text
returns c =
    rw (← c.unavailable.ensures, c.if-not-unavailable.false)
    (then_put _ _ _ _ _ c.put_barred_when.ensures c.put_barred_course.ensures)
