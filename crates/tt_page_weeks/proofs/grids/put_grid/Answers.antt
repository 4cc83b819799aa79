use Rattle.tt_page_weeks.specs.Grids.{grid_text}
use Rattle.tt_page_text.proofs.Growing.{then_put}
use Rattle.tt_page_weeks.proofs.grids.put_grid.Goals as goal

pub returns : goal.returns
unfolding grid_text
returns c =
    let title = rw c.instance-instance.ensures at c.put_grid_title.ensures in
    let days = rw c.instance-instance.ensures at c.put_day_heads.ensures in
    let rows = rw c.own_courses-own.ensures.value at c.put_rows.ensures in
    then_put _ _ _ _ _ (then_put _ _ _ _ _ (then_put _ _ _ _ _ (then_put _ _ _ _ _ title days) c.put_token.ensures) rows)
    c.put_token-2.ensures
