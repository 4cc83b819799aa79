use Rattle.std.proofs.Common.{◌≡◌}
use Rattle.std.specs.Prelude.{codes}
use Rattle.tt_page_weeks.specs.Lectures.{hue_class, lecture_head}
use Rattle.tt_page_text.specs.Kinds.{first_curriculum}
use Rattle.tt_page_text.proofs.Growing.{then_put}
use Rattle.tt_page_text.specs.Puts.{put_text}
use Rattle.tt_page_weeks.proofs.lectures.put_lecture_head.Goals as goal

-- the element's name and its first class were written
class_put : (c : goal.After-put_hue) → c.put_token.new.out ≡ put_text c.args.out.now (codes "<div class=\"lecture")
class_put c = c.put_token.ensures

pub returns : goal.returns
unfolding lecture_head
returns c =
    let first = c.args.out.now in
    let middle = c.put_token.new.out in
    then_put first middle _
    (codes "<div class=\"lecture") (hue_class (first_curriculum c.args.plan.now.problem c.args.course)) (class_put c)
    (rw c.first_curriculum.ensures at c.put_hue.ensures)
