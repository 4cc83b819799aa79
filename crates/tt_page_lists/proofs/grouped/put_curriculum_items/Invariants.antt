use Rattle.std.proofs.Common.{◌≡◌}
use Rattle.std.specs.Prelude.{flat_map}
use Rattle.tt_list_laws.specs.Words.{range_below}
use Rattle.tt_page_text.specs.Puts.{put_text}
use Rattle.tt_page_lists.specs.Grouped.{curriculum_item}
use Rattle.tt_page_lists.proofs.grouped.put_curriculum_items.Given as goal

abbrev pub invariant-loop-curriculum : goal.invariant-loop-curriculum
invariant-loop-curriculum l =
    l.out ≡ put_text l.initial.out (flat_map (curriculum_item l.plan.problem l.plan.table l.labels) (range_below l.curriculum))
