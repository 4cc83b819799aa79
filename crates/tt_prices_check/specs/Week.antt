-- The moves of all days of a week, and the least that a week pays.
use Rattle.std.specs.Prelude.{◌≡◌, ℕ, ◌+◌, ◌-◌, ◌*◌, ◌<◌, ℤ, pos, ◌+ℤ◌, ◌≤ℤ◌, List, ◌++◌, map, length, sum_by, slice_index_or, Option, MatchOption, Vec}
use Rattle.std.specs.Global.{Global}
use Rattle.tt_instance.specs.declared.limit.TheConstants.{MISSING_DAY_COST}
use Rattle.tt_instance.specs.Problem.{Problem}
use Rattle.tt_instance.specs.Courses.{lectures, min_days}
use Rattle.tt_instance.specs.declared.cell.Cell.{Cell}
use Rattle.tt_groups.specs.Plans.{Week, slack}
use Rattle.tt_groups.specs.Days.{counted_of, IsDayList, IsPricedPlan, plan_paid}
use Rattle.tt_groups.specs.Prices.{PricedGroup, IsRelaxedTimetable, IsGroupBound, paid}
use Rattle.tt_groups.specs.declared.day.PricedDay.{PricedDay}
use Rattle.tt_prices_check.specs.Moves.{AreMovesOf}
use Rattle.tt_prices_check.specs.declared.moves.PricedMove.{PricedMove}

-- The sizes of the digits: a counted course has up to all its lectures, and a course whose working days count has further lectures up to
-- the slack.
abbrev pub week_sizes : Problem → PricedGroup → List ℕ
week_sizes p g = map (λ c. lectures p c + 1) (counted_of p g) ++ map (λ c. slack p c + 1) g.courses

-- Whether the digits are those of a group, and each day has the moves of its list.
pub record Suits (p : Problem) (scale : ℕ) (g : PricedGroup) (sizes : List ℕ) (courses : ℕ)
    (lists : List (Vec PricedMove Global)) : Type 0 where
  pub sizes_are : sizes ≡ week_sizes p g
  pub courses_are : courses ≡ length (counted_of p g)
  pub all_days : length lists ≡ p.days
  pub each_day : (d : ℕ) (v : Vec PricedMove Global) → d < length lists
      → (days : List PricedDay) × IsDayList p scale g d days × AreMovesOf days (slice_index_or lists d v).items

-- The number of moves of all days.
abbrev pub all_moves : List (Vec PricedMove Global) → ℕ
all_moves lists = sum_by (λ v. length v.items) lists

-- Every week pays 5, `scale` times, for each day that a course lacks even if it has one lecture a day.
abbrev pub base_paid : Problem → ℕ → PricedGroup → ℕ
base_paid p scale g = scale * sum_by (λ c. MISSING_DAY_COST * (min_days p c - lectures p c)) g.courses

-- The number and what every week pays are the least that a plan pays; there is no number if there is no plan.
abbrev pub IsLeastPlan : Problem → ℕ → PricedGroup → Option ℤ → Type 0
IsLeastPlan p scale g least = MatchOption least ((week : Week) → IsPricedPlan p g week → ⊥)
    (λ v. ((week : Week) → IsPricedPlan p g week → (v +ℤ pos (base_paid p scale g)) ≤ℤ plan_paid p scale g week)
    × ((week : Week) × IsPricedPlan p g week × (plan_paid p scale g week ≡ v +ℤ pos (base_paid p scale g))))

-- The number and what every week pays are the least that the group pays in a relaxed timetable; there is no number if there is none.
abbrev pub IsLeastTimetable : Problem → ℕ → PricedGroup → Option ℤ → Type 0
IsLeastTimetable p scale g least = MatchOption least ((t : List Cell) → IsRelaxedTimetable p g t → ⊥)
    (λ v. IsGroupBound p scale g (v +ℤ pos (base_paid p scale g))
    × ((t : List Cell) × IsRelaxedTimetable p g t × (paid p scale g t ≡ v +ℤ pos (base_paid p scale g))))
