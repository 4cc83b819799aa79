use Rattle.std.proofs.Common.{◌≡◌}
use Rattle.std.specs.Prelude.{flat_map}
use Rattle.tt_list_laws.specs.Words.{range_below}
use Rattle.tt_page_text.specs.Puts.{put_text}
use Rattle.tt_page_lists.specs.Grouped.{seats_item}
use Rattle.tt_page_lists.proofs.grouped.put_seats_items.Given as goal

abbrev pub invariant-loop-course : goal.invariant-loop-course
invariant-loop-course l = l.out ≡ put_text l.initial.out (flat_map (seats_item l.plan.problem l.plan.table l.labels) (range_below l.course))
