use Rattle.std.proofs.Common.{◌≡◌}
use Rattle.std.specs.Prelude.{codes}
use Rattle.tt_page_weeks.specs.Days.{period_head}
use Rattle.tt_page_text.proofs.Growing.{then_put}
use Rattle.tt_page_text.specs.Puts.{put_text}
use Rattle.tt_page_weeks.proofs.days.put_period_head.Goals as goal

-- the head was written
head_put : (c : goal.After-put_token-2) → c.put_token.new.out ≡ put_text c.args.out.now (codes "<th scope=\"col\">")
head_put c = c.put_token.ensures

pub returns : goal.returns
unfolding period_head
returns c =
    let first = c.args.out.now in
    let middle = c.put_period.new.out in
    then_put first middle _ _ _ (then_put first c.put_token.new.out middle (codes "<th scope=\"col\">") _
    (head_put c) c.put_period.ensures) c.put_token-2.ensures
