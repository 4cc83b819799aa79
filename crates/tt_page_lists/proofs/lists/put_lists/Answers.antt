use Rattle.tt_page_lists.specs.Lists.{lists_text}
use Rattle.tt_page_text.proofs.Growing.{then_put}
use Rattle.tt_page_lists.proofs.lists.put_lists.Goals as goal

pub returns : goal.returns
unfolding lists_text
returns c =
    then_put _ _ _ _ _
    (then_put _ _ _ _ _ (then_put _ _ _ _ _ (then_put _ _ _ _ _ (then_put _ _ _ _ _ (then_put _ _ _ _ _ (then_put _ _ _ _ _
    c.put_list.ensures c.put_list-2.ensures) c.put_list-3.ensures) c.put_list-4.ensures) c.put_list-5.ensures) c.put_list-6.ensures)
    c.put_list-7.ensures) c.put_list-8.ensures
