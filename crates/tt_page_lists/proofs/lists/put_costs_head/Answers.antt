use Rattle.tt_page_lists.specs.Lists.{costs_head}
use Rattle.tt_page_lists.proofs.lists.put_costs_head.Goals as goal

pub returns : goal.returns
unfolding costs_head
returns c = rw (← c.word.ensures, ← c.title.ensures) c.put.ensures
