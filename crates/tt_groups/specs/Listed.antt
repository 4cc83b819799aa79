-- The table of a day as a list of entries; cs are the courses that the group concerns.
use Rattle.std.specs.Prelude.{◌≡◌, ℕ, ◌+◌, ◌<◌, ◌≤◌, List, length, true, Contains, slice_index}
use Rattle.tt_instance.specs.Problem.{Problem}
use Rattle.tt_groups.specs.Group.{Group, concerns}
use Rattle.tt_groups.specs.Places.{group_amounts}
use Rattle.tt_groups.specs.Plans.{Day, lectures_on, day_cost, IsDay}
use Rattle.tt_groups.specs.Tables.{Vector, Fits}
use Rattle.tt_groups.specs.declared.entry.DayEntry.{DayEntry}

-- The list has the courses that the group concerns, and no others.
pub record AreCourses (p : Problem) (g : Group) (cs : List ℕ) : Type 0 where
  pub own : (c : ℕ) → Contains cs c → concerns p g c ≡ true
  pub all : (c : ℕ) → concerns p g c ≡ true → Contains cs c

-- Whether the entry has the amounts of a day with the lectures k.
pub record IsEntryOf (g : Group) (cs : List ℕ) (k : Vector) (x : DayEntry) : Type 0 where
  pub amounts : (j : ℕ) → j < length cs + length g.courses → slice_index x.amounts j ≡ slice_index (group_amounts g cs k) j

-- Whether each day that costs less than b has an entry that costs no more than the day.
pub record IsDayList (p : Problem) (g : Group) (cs : List ℕ) (b d : ℕ) (days : List DayEntry) : Type 0 where
  pub low : (day : Day) → IsDay p g d day → Fits p g (lectures_on p day) → day_cost p g day < b
      → (x : DayEntry) × Contains days x × IsEntryOf g cs (lectures_on p day) x × (x.cost ≤ day_cost p g day)

-- Whether some day has the lectures of the entry and costs no more than the entry.
pub record IsReachedDay (p : Problem) (g : Group) (cs : List ℕ) (d : ℕ) (x : DayEntry) : Type 0 where
  pub day : Day
  pub is : IsDay p g d day
  pub entry : IsEntryOf g cs (lectures_on p day) x
  pub paid : day_cost p g day ≤ x.cost
