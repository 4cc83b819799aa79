use Rattle.tt_page.specs.Pages.{changed_text}
use Rattle.tt_page_text.proofs.Growing.{then_put}
use Rattle.tt_page.proofs.pages.put_changed_page.Goals as goal

pub returns : goal.returns
unfolding changed_text
returns c =
    let head = rw c.instance.ensures at c.put_changed_head.ensures in
    then_put _ _ _ _ _ (then_put _ _ _ _ _ (then_put _ _ _ _ _ head c.put_changed_counts.ensures) c.put_weeks.ensures) c.put_token.ensures
