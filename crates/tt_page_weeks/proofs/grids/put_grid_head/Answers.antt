use Rattle.tt_page_weeks.specs.Grids.{grid_head}
use Rattle.tt_page_weeks.proofs.grids.put_grid_head.Goals as goal

pub returns : goal.returns
unfolding grid_head
returns c = rw (← c.name-name.ensures, ← c.word-word.ensures, ← c.caption_of.ensures) c.put.ensures
