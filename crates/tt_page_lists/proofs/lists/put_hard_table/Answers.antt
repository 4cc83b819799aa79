use Rattle.std.proofs.Common.{◌≡◌, refl}
use Rattle.std.specs.Prelude.{codes}
use Rattle.tt_rules.specs.Score.{hard}
use Rattle.tt_page_lists.specs.Lists.{hard_head, hard_table, table_foot, table_end}
use Rattle.tt_page_text.proofs.Growing.{then_put}
use Rattle.tt_page_text.specs.Puts.{put_text}
use Rattle.tt_page_text.specs.Windowed.{PageState}
use Rattle.tt_page_lists.proofs.lists.put_hard_table.Goals as goal

-- the head was written
head_put : (first out : PageState)
    → out ≡ put_text first (codes "<table class=\"counts\" id=\"hard\">\n<caption>Hard rules</caption>\n<tbody>\n")
    → out ≡ put_text first hard_head
unfolding hard_head
head_put first out put = put

pub returns : goal.returns
unfolding hard_table table_foot table_end
returns c =
    let p = c.args.plan.now.problem in
    let t = c.args.plan.now.table in
    let total : c.hard.result ≡ hard p t = rw (
      c.hard.ensures,
      c.requires.lectures,
      c.requires.conflicts,
      c.requires.availability,
      c.requires.room_occupancy,
    ) refl in
    let total_row = rw total at c.put_total_row.ensures in
    then_put _ _ _ _ _
    (then_put _ _ _ _ _
    (then_put _ _ _ _ _
    (then_put _ _ _ _ _
    (then_put _ _ _ _ _
    (then_put _ _ _ _ _ (then_put _ _ _ _ _ (head_put _ _ c.put_token.ensures) c.put_rule_row.ensures)
    c.put_rule_row-2.ensures) c.put_rule_row-3.ensures) c.put_rule_row-4.ensures) c.put_token-2.ensures)
    total_row) c.put_token-3.ensures
