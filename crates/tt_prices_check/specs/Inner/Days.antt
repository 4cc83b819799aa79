-- The moves of the days of a group with prices.
use Rattle.std.specs.Prelude.{ℕ, ◌<◌, List, length, Vec, slice_index_or}
use Rattle.std.specs.Global.{Global}
use Rattle.tt_instance.specs.Problem.{Problem}
use Rattle.tt_groups.specs.Days.{IsDayList}
use Rattle.tt_groups.specs.Prices.{PricedGroup}
use Rattle.tt_groups.specs.declared.day.PricedDay.{PricedDay}
use Rattle.tt_prices_check.specs.Moves.{AreMovesOf}
use Rattle.tt_prices_check.specs.declared.moves.PricedMove.{PricedMove}

-- Whether each day has the moves of its list.
abbrev pub HasDays : Problem → ℕ → PricedGroup → List (Vec PricedMove Global) → Type 0
HasDays p scale g week = (d : ℕ) (v : Vec PricedMove Global) → d < length week
    → (days : List PricedDay) × IsDayList p scale g d days × AreMovesOf days (slice_index_or week d v).items
