use Rattle.tt_page_lists.specs.Lists.{broken_head}
use Rattle.tt_page_lists.proofs.lists.put_broken_head.Goals as goal

pub returns : goal.returns
unfolding broken_head
returns c = rw (← c.word.ensures, ← c.title.ensures) c.put.ensures
