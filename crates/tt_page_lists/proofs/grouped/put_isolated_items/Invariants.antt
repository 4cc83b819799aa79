use Rattle.std.proofs.Common.{◌≡◌, take}
use Rattle.std.specs.Prelude.{flat_map}
use Rattle.tt_page_text.specs.Puts.{put_text}
use Rattle.tt_page_lists.specs.Grouped.{isolated_item}
use Rattle.tt_page_lists.proofs.grouped.put_isolated_items.Given as goal

abbrev pub invariant-loop-entry : goal.invariant-loop-entry
invariant-loop-entry l = l.out ≡ put_text l.initial.out (flat_map (isolated_item l.plan.problem l.plan.table l.labels l.curriculum)
    (take l.entry-index l.entry-items))
