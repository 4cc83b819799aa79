-- A week as the courses that each period has, and its cost for a group, day by day.
use Rattle.std.specs.Prelude.{◌≡◌, ℕ, ◌+◌, ◌-◌, ◌*◌, ◌<◌, min, nat_lt, Bool, true, false, not, ◌&&◌, List, sum_by, count_by}
use Rattle.std.specs.List.{list_any}
use Rattle.tt_list_laws.specs.Words.{range_below}
use Rattle.tt_instance.specs.declared.limit.TheConstants.{ISOLATED_COST, MISSING_DAY_COST}
use Rattle.tt_instance.specs.Problem.{Problem}
use Rattle.tt_instance.specs.Cells.{slot, all_days, is_of, is_at}
use Rattle.tt_instance.specs.Courses.{lectures, min_days, members, conflict, unavailable}
use Rattle.tt_instance.specs.declared.cell.Cell.{Cell}
use Rattle.tt_groups.specs.Group.{Group, concerns}

-- A day says whether a period has a course: first the period, then the course.
abbrev pub Day : Type 0
Day = ℕ → ℕ → Bool

-- A week gives each day by its number.
abbrev pub Week : Type 0
Week = ℕ → Day

-- In the week of a timetable, a period has a course if an entry of the course is in it.
abbrev pub week_of : List Cell → Week
week_of t d s c = list_any (λ e. is_of c e && is_at (slot d s) e) t

-- ---- one day

-- The number of a course's lectures on a day: the periods that have it.
abbrev pub lectures_on : Problem → Day → ℕ → ℕ
lectures_on p day c = count_by (λ s. day s c) (range_below p.periods)

-- Whether a curriculum is taught in a period: the period has one of its members.
abbrev pub is_taught : Problem → Day → ℕ → ℕ → Bool
is_taught p day q s = nat_lt s p.periods && list_any (day s) (members p q)

-- Whether a period is single for a curriculum: it is taught in the period, but not in the period before or after it.
abbrev pub is_single : Problem → Day → ℕ → ℕ → Bool
is_single p day q s = is_taught p day q s && not (nat_lt 0 s && is_taught p day q (s - 1)) && not (is_taught p day q (s + 1))

-- A day costs a group 2 for each single period of each of its curricula.
abbrev pub day_cost : Problem → Group → Day → ℕ
day_cost p g day = sum_by (λ q. ISOLATED_COST * count_by (is_single p day q) (range_below p.periods)) g.curricula

-- Whether the courses that the group concerns are available where the day d has them, and no period of the day has two that conflict.
pub record IsDay (p : Problem) (g : Group) (d : ℕ) (day : Day) : Type 0 where
  pub available : (s c : ℕ) → s < p.periods → concerns p g c ≡ true → day s c ≡ true → unavailable p c d s ≡ false
  pub apart : (s a b : ℕ) → s < p.periods → concerns p g a ≡ true → concerns p g b ≡ true → day s a ≡ true → day s b ≡ true → conflict p a b ≡ false

-- ---- the week

-- A plan is a week of valid days on which each course that the group concerns has all its lectures.
pub record IsPlan (p : Problem) (g : Group) (week : Week) : Type 0 where
  pub days : (d : ℕ) → d < p.days → IsDay p g d (week d)
  pub lectures : (c : ℕ) → concerns p g c ≡ true → sum_by (λ d. lectures_on p (week d) c) (all_days p) ≡ lectures p c

-- The used lectures of a course are those on the first d days.
abbrev pub used : Problem → Week → ℕ → ℕ → ℕ
used p week d c = sum_by (λ i. lectures_on p (week i) c) (range_below d)

-- The further lectures of a course are the lectures on the first d days that are not the first of their day.
abbrev pub further : Problem → Week → ℕ → ℕ → ℕ
further p week d c = sum_by (λ i. lectures_on p (week i) c - 1) (range_below d)

-- The slack of a course is the number of its further lectures that cost nothing.
abbrev pub slack : Problem → ℕ → ℕ
slack p c = lectures p c - min_days p c

-- The capped number of further lectures: at most the slack.
abbrev pub capped : Problem → Week → ℕ → ℕ → ℕ
capped p week d c = min (further p week d c) (slack p c)

-- The base cost is paid in every week, since a course has no more days than lectures.
abbrev pub base_cost : Problem → Group → ℕ
base_cost p g = sum_by (λ c. MISSING_DAY_COST * (min_days p c - lectures p c)) g.courses

-- The cost of the first d days, and 5 for each further lecture on them beyond the slack.
abbrev pub spent : Problem → Group → Week → ℕ → ℕ
spent p g week d = sum_by (λ i. day_cost p g (week i)) (range_below d) + sum_by (λ c. MISSING_DAY_COST * (further p week d c - slack p c)) g.courses
