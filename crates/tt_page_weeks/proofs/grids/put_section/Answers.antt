use Rattle.tt_page_weeks.specs.Grids.{section_text}
use Rattle.tt_page_text.proofs.Growing.{then_put}
use Rattle.tt_page_weeks.proofs.grids.put_section.Goals as goal

pub returns : goal.returns
unfolding section_text
returns c =
    let head = rw c.instance.ensures at c.put_section_head.ensures in
    let index = rw (c.instance-2.ensures, c.in_order-numbers.ensures.value) at c.put_index.ensures in
    let grids = rw c.in_order-numbers.ensures.value at c.put_grids.ensures in
    then_put _ _ _ _ _ (then_put _ _ _ _ _ (then_put _ _ _ _ _ (then_put _ _ _ _ _ head index) c.put_token.ensures) grids)
    c.put_token-2.ensures
