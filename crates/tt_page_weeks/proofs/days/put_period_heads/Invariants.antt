use Rattle.std.proofs.Common.{◌≡◌}
use Rattle.std.specs.Prelude.{flat_map}
use Rattle.tt_list_laws.specs.Words.{range_below}
use Rattle.tt_page_text.specs.Puts.{put_text}
use Rattle.tt_page_weeks.specs.Days.{period_head}
use Rattle.tt_page_weeks.proofs.days.put_period_heads.Given as goal

abbrev pub invariant-loop-period : goal.invariant-loop-period
invariant-loop-period l = l.out ≡ put_text l.initial.out (flat_map (period_head l.labels) (range_below l.period))
