use Rattle.std.proofs.Common.{◌≡◌}
use Rattle.std.specs.Prelude.{flat_map}
use Rattle.tt_list_laws.specs.Words.{range_below}
use Rattle.tt_page_text.specs.Puts.{put_text}
use Rattle.tt_page_weeks.specs.Days.{day_index_item}
use Rattle.tt_page_weeks.proofs.days.put_day_index.Given as goal

abbrev pub invariant-loop-day : goal.invariant-loop-day
invariant-loop-day l = l.out ≡ put_text l.initial.out (flat_map (day_index_item l.labels) (range_below l.day))
