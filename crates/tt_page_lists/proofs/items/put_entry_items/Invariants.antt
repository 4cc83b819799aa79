use Rattle.std.proofs.Common.{◌≡◌, drop}
use Rattle.tt_page_text.specs.Puts.{put_text}
use Rattle.tt_page_lists.specs.Items.{entry_items}
use Rattle.tt_page_lists.proofs.items.put_entry_items.Given as goal

abbrev pub invariant-loop-index : goal.invariant-loop-index
invariant-loop-index l = put_text l.out (entry_items l.plan.problem l.labels l.rule (drop l.index l.plan.table))
    ≡ put_text l.initial.out (entry_items l.plan.problem l.labels l.rule l.plan.table)
