use Rattle.tt_page_text.proofs.Growing.{then_put}
use Rattle.tt_page.proofs.changed.put_marked_style.Goals as goal

pub returns : goal.returns
returns c =
    let style = rw c.as_bytes.ensures.value at c.put_token.ensures in
    then_put _ _ _ _ _ style c.put_marks.ensures
