use Rattle.tt_page_weeks.specs.Days.{days_text}
use Rattle.tt_page_text.proofs.Growing.{then_put}
use Rattle.tt_page_weeks.proofs.days.put_days.Goals as goal

pub returns : goal.returns
unfolding days_text
returns c =
    let head = rw (c.days.ensures.value, c.instance.ensures) at c.put_days_head.ensures in
    let index = rw c.instance-2.ensures at c.put_day_index.ensures in
    then_put _ _ _ _ _
    (then_put _ _ _ _ _ (then_put _ _ _ _ _ (then_put _ _ _ _ _ head index) c.put_token.ensures) c.put_day_grids.ensures)
    c.put_token-2.ensures
