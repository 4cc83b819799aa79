-- The entries of a timetable in groups.
use Rattle.std.specs.Prelude.{◌≡◌, ℕ, ◌+◌, ◌*◌, ◌<◌, ◌≤◌, ◌==◌, Bool, not, List, [], ◌∷◌, length, drop, filter, slice_index_or}
use Rattle.std.specs.List.{prefix_len}
use Rattle.tt_instance.specs.declared.cell.Cell.{Cell}
use Rattle.tt_table.specs.declared.groups.TheConstants.{GROUPS}
use Rattle.tt_table.specs.declared.groups.GroupBy.{GroupBy}
use Rattle.tt_table.specs.declared.groups.GroupBy.TheVariants.{Course, Room, Period}

-- The number of an entry's group.
abbrev pub group_of : GroupBy → Cell → ℕ
group_of Course e = e.course
group_of Room e = e.room
group_of (Period periods) e = e.day * periods + e.period

-- Whether the entry is in the group with this number.
abbrev pub in_group : GroupBy → ℕ → Cell → Bool
in_group by g e = group_of by e == g

-- The first entry and those after it that are of its group.
abbrev pub led_group : GroupBy → List Cell → List Cell
led_group by [] = []
led_group by (e ∷ es) = e ∷ filter (in_group by (group_of by e)) es

-- Entries, and the kind of their groups.
pub record Grouped : Type 0 where
  pub by : GroupBy
  pub entries : List Cell

-- The place of the first entry of a group from a place on, or the number of entries.
abbrev pub first_at : GroupBy → List Cell → ℕ → ℕ → ℕ
first_at by t g i = i + prefix_len (λ e. not (in_group by g e)) (drop i t)

-- The entry for a place out of range: all its numbers are 0.
abbrev pub nobody : Cell
nobody = record { course = 0; room = 0; day = 0; period = 0 }

-- For each entry from a place on, `next` has the place of the next entry of its group.
abbrev pub NamesNext : GroupBy → List Cell → List ℕ → ℕ → Type 0
NamesNext by t next i = (j : ℕ) → i ≤ j → j < length t → slice_index_or next j 0 ≡ first_at by t (group_of by (slice_index_or t j nobody)) (j + 1)

-- For each group, `first` has the place of its first entry from a place on.
abbrev pub NamesFirst : GroupBy → List Cell → List ℕ → ℕ → Type 0
NamesFirst by t first i = (g : ℕ) → g < GROUPS → slice_index_or first g 0 ≡ first_at by t g i

-- `next` has, for each entry, the place of the next entry of its group, or the number of entries if there is none.
pub record IsChained (by : GroupBy) (t : List Cell) (next : List ℕ) : Type 0 where
  pub room : length t ≤ length next
  pub named : NamesNext by t next 0

-- `first` has the place of the first entry of each group, and `next` has, for each entry, the place of the next entry of its group.
-- If there is no such entry, the place is the number of entries.
pub record IsLinked (by : GroupBy) (t : List Cell) (first next : List ℕ) : Type 0 where
  pub groups : length first ≡ GROUPS
  pub begins : NamesFirst by t first 0
  pub chained : IsChained by t next
