use Rattle.std.proofs.Common.{◌≡◌, refl}
use Rattle.std.specs.Prelude.{codes}
use Rattle.tt_rules.specs.Score.{cost}
use Rattle.tt_page_lists.specs.Lists.{cost_head, cost_table, table_foot, table_end}
use Rattle.tt_page_text.proofs.Growing.{then_put}
use Rattle.tt_page_text.specs.Puts.{put_text}
use Rattle.tt_page_text.specs.Windowed.{PageState}
use Rattle.tt_page_lists.proofs.lists.put_cost_table.Goals as goal

-- the head was written
head_put : (first out : PageState)
    → out ≡ put_text first (codes "<table class=\"counts\" id=\"cost\">\n<caption>Costs</caption>\n<tbody>\n")
    → out ≡ put_text first cost_head
unfolding cost_head
head_put first out put = put

pub returns : goal.returns
unfolding cost_table table_foot table_end
returns c =
    let p = c.args.plan.now.problem in
    let t = c.args.plan.now.table in
    let total : c.cost.result ≡ cost p t = rw (
      c.cost.ensures,
      c.requires.room_capacity,
      c.requires.min_working_days,
      c.requires.compactness,
      c.requires.room_stability,
    ) refl in
    let total_row = rw total at c.put_total_row.ensures in
    then_put _ _ _ _ _
    (then_put _ _ _ _ _
    (then_put _ _ _ _ _
    (then_put _ _ _ _ _
    (then_put _ _ _ _ _
    (then_put _ _ _ _ _ (then_put _ _ _ _ _ (head_put _ _ c.put_token.ensures) c.put_rule_row.ensures)
    c.put_rule_row-2.ensures) c.put_rule_row-3.ensures) c.put_rule_row-4.ensures) c.put_token-2.ensures)
    total_row) c.put_token-3.ensures
