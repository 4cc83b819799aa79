use Rattle.tt_page_weeks.specs.Grids.{table_head}
use Rattle.tt_page_weeks.proofs.grids.put_table_head.Goals as goal

pub returns : goal.returns
unfolding table_head
returns c = rw (← c.word.ensures) c.put.ensures
