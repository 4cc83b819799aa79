use Rattle.std.proofs.Common.{◌≡◌}
use Rattle.std.specs.Prelude.{codes}
use Rattle.tt_page_text.proofs.Growing.{then_put}
use Rattle.tt_page_text.specs.Puts.{put_text}
use Rattle.tt_page_weeks.specs.Named.{named_text}
use Rattle.tt_page_weeks.proofs.named.put_named.Goals as goal

-- the beginning was written
head_put : (c : goal.After-put_token-2) → c.put_token.new.out ≡ put_text c.args.out.now (codes "<div class=\"grids\">\n")
head_put c = c.put_token.ensures

pub returns : goal.returns
unfolding named_text
returns c =
    let first = c.args.out.now in
    then_put first _ _ _ _
    (then_put first _ _ _ _
    (then_put first _ _ _ _
    (then_put first _ _ (codes "<div class=\"grids\">\n") _ (head_put c) c.put_named_grids.ensures) c.put_named_grids-2.ensures)
    c.put_named_grids-3.ensures) c.put_token-2.ensures
