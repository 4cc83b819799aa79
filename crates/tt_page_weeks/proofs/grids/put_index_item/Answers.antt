use Rattle.std.proofs.Common.{◌≡◌}
use Rattle.std.specs.Prelude.{codes}
use Rattle.tt_page_weeks.specs.Lectures.{hue_class}
use Rattle.tt_page_weeks.specs.Grids.{curriculum_of, index_item}
use Rattle.tt_page_text.proofs.Growing.{then_put}
use Rattle.tt_page_text.specs.Puts.{put_text}
use Rattle.tt_page_weeks.proofs.grids.put_index_item.Goals as goal

-- the element's name and its first class were written
class_put : (c : goal.After-put_token-3) → c.put_token.new.out ≡ put_text c.args.out.now (codes "<li class=\"week")
class_put c = c.put_token.ensures

-- the hue was written
hue_put : (c : goal.After-put_token-3) → c.put_hue.new.out ≡ put_text c.put_token.new.out
    (hue_class (curriculum_of c.args.kind c.args.number))
hue_put c = rw c.curriculum_of.ensures at c.put_hue.ensures

pub returns : goal.returns
unfolding index_item
returns c =
    let first = c.args.out.now in
    then_put first _ _ _ _
    (then_put first _ _ _ _
    (then_put first _ _ _ _
    (then_put first _ _
    (codes "<li class=\"week") _ (class_put c) (hue_put c)) c.put_token-2.ensures) c.put_week_link.ensures) c.put_token-3.ensures
