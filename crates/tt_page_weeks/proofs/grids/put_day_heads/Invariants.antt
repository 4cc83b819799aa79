use Rattle.std.proofs.Common.{◌≡◌}
use Rattle.std.specs.Prelude.{flat_map}
use Rattle.tt_list_laws.specs.Words.{range_below}
use Rattle.tt_page_text.specs.Puts.{put_text}
use Rattle.tt_page_weeks.specs.Grids.{day_head}
use Rattle.tt_page_weeks.proofs.grids.put_day_heads.Given as goal

abbrev pub invariant-loop-day : goal.invariant-loop-day
invariant-loop-day l = l.out ≡ put_text l.initial.out (flat_map (day_head l.labels) (range_below l.day))
