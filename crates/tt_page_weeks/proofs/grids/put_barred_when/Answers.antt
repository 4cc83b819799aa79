use Rattle.std.proofs.Common.{◌≡◌}
use Rattle.std.specs.Prelude.{codes}
use Rattle.tt_page_weeks.specs.Grids.{barred_when}
use Rattle.tt_page_text.proofs.Growing.{then_put}
use Rattle.tt_page_text.specs.Puts.{put_text}
use Rattle.tt_page_weeks.proofs.grids.put_barred_when.Goals as goal

-- the head was written
head_put : (c : goal.After-put_token-2) → c.put_token.new.out ≡ put_text c.args.out.now
    (codes "<div class=\"barred\"><span class=\"when\">")
head_put c = c.put_token.ensures

pub returns : goal.returns
unfolding barred_when
returns c =
    let first = c.args.out.now in
    let middle = c.put_when.new.out in
    then_put first middle _ _ _ (then_put first c.put_token.new.out middle (codes "<div class=\"barred\"><span class=\"when\">") _
    (head_put c) c.put_when.ensures) c.put_token-2.ensures
