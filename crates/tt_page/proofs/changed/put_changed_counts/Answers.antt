use Rattle.tt_page.specs.Changed.{changed_counts}
use Rattle.tt_page_text.proofs.Growing.{then_put}
use Rattle.tt_page.proofs.changed.put_changed_counts.Goals as goal

pub returns : goal.returns
unfolding changed_counts
returns c =
    let changes = rw c.instance.ensures at c.put_changes.ensures in
    let lists = rw c.courses.ensures at c.put_lists.ensures in
    then_put _ _ _ _ _
    (then_put _ _ _ _ _ (then_put _ _ _ _ _ (then_put _ _ _ _ _ (then_put _ _ _ _ _ c.put_header.ensures c.put_hard_table.ensures)
    c.put_cost_table.ensures) c.put_legend.ensures) changes) lists
