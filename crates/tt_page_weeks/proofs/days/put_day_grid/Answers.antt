use Rattle.tt_page_weeks.specs.Days.{day_grid}
use Rattle.tt_page_text.proofs.Growing.{then_put}
use Rattle.tt_page_weeks.proofs.days.put_day_grid.Goals as goal

pub returns : goal.returns
unfolding day_grid
returns c =
    let title = rw c.instance.ensures at c.put_day_title.ensures in
    let heads = rw c.instance-2.ensures at c.put_period_heads.ensures in
    let rows = rw c.in_order-rooms.ensures.value at c.put_room_rows.ensures in
    then_put _ _ _ _ _ (then_put _ _ _ _ _ (then_put _ _ _ _ _ (then_put _ _ _ _ _ title heads) c.put_token.ensures) rows)
    c.put_token-2.ensures
