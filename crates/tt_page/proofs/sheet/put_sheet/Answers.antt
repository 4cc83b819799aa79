use Rattle.tt_page.specs.Sheets.{sheet_text}
use Rattle.tt_page_text.proofs.Growing.{then_put}
use Rattle.tt_page.proofs.sheet.put_sheet.Goals as goal

pub returns : goal.returns
unfolding sheet_text
returns c =
    let head = rw c.instance.ensures at c.put_head.ensures in
    let top = rw c.instance-2.ensures at c.put_sheet_head.ensures in
    then_put _ _ _ _ _ (then_put _ _ _ _ _ (then_put _ _ _ _ _ head top) c.put_sheet_weeks.ensures) c.put_token.ensures
