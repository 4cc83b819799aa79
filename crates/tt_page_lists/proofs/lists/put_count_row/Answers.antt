use Rattle.tt_page_lists.specs.Lists.{count_row}
use Rattle.tt_page_lists.proofs.lists.put_count_row.Goals as goal

pub returns : goal.returns
unfolding count_row
returns c = rw (← c.row_begin.ensures) c.put.ensures
