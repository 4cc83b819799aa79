use Rattle.tt_page_weeks.specs.Grids.{section_head}
use Rattle.tt_page_weeks.proofs.grids.put_section_head.Goals as goal

pub returns : goal.returns
unfolding section_head
returns c = rw (← c.section_of.ensures, ← c.title_of.ensures, ← c.count-count.ensures) c.put.ensures
