use Rattle.std.proofs.Common.{◌≡◌}
use Rattle.tt_page.specs.Heading.{before_title, head_text}
use Rattle.tt_page_text.proofs.Growing.{then_put}
use Rattle.tt_page_text.specs.Puts.{put_text}
use Rattle.tt_page.proofs.changed.put_changed_head.Goals as goal

-- the text before the title was written
begin_put : (c : goal.After-put_token-3) → c.put_token.new.out ≡ put_text c.args.out.now before_title
unfolding before_title
begin_put c = rw c.as_bytes.ensures.value at c.put_token.ensures

pub returns : goal.returns
unfolding head_text
returns c =
    then_put _ _ _ _ _
    (then_put _ _ _ _ _ (then_put _ _ _ _ _ (then_put _ _ _ _ _ (begin_put c) c.put_name.ensures) c.put_token-2.ensures)
    c.put_marked_style.ensures) c.put_token-3.ensures
