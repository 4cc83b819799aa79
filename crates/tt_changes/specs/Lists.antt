-- Which lists are the changes from an older timetable to a newer one.
use Rattle.std.specs.Prelude.{◌≡◌, ◌≢◌, ℕ, ◌-◌, List, ◌++◌, length, map, count_by, All, IsPermutation}
use Rattle.tt_instance.specs.Problem.{Problem}
use Rattle.tt_instance.specs.Cells.{InRange, is_of, slot_of}
use Rattle.tt_instance.specs.declared.cell.Cell.{Cell}
use Rattle.tt_rules.specs.Hard.{entries_of}
use Rattle.tt_changes.specs.Counts.{moved_of, moved_count, rooms_of, rooms_count}
use Rattle.tt_changes.specs.declared.change.Change.{Change}
use Rattle.tt_changes.specs.declared.change.Changes.{Changes}

-- The lecture left its period.
pub record LeavesPeriod (m : Change) : Type 0 where
  pub course : m.from.course ≡ m.to.course
  pub period : slot_of m.from ≢ slot_of m.to

-- The lecture kept its period and changed its room.
pub record ChangesRoom (m : Change) : Type 0 where
  pub course : m.from.course ≡ m.to.course
  pub period : slot_of m.from ≡ slot_of m.to
  pub room : m.from.room ≢ m.to.room

-- Both entries of the change are in the range of the instance.
pub record ChangeInRange (p : Problem) (m : Change) : Type 0 where
  pub from : InRange p m.from
  pub to : InRange p m.to

-- All entries of the changes are in the range of the instance.
pub record ChangesInRange (p : Problem) (c : Changes) : Type 0 where
  pub moved : All (ChangeInRange p) c.moved.items
  pub rooms : All (ChangeInRange p) c.rooms.items
  pub gone : All (InRange p) c.gone.items
  pub added : All (InRange p) c.added.items

-- The entries where the lectures of the changes were, and those where they are.
abbrev pub older_entries : List Change → List Cell
older_entries cs = map (λ m. m.from) cs

abbrev pub newer_entries : List Change → List Cell
newer_entries cs = map (λ m. m.to) cs

-- The number of changes of lectures of the course.
abbrev pub changes_of : List Change → ℕ → ℕ
changes_of cs c = count_by (λ m. is_of c m.from) cs

-- The entries that stay are in both timetables. With them the older entries of the changes are the older timetable, and the newer ones the
-- newer timetable, each as often as there. Each list has as many lectures of each course as the definitions count.
pub record IsChanges (p : Problem) (old new : List Cell) (c : Changes) : Type 0 where
  pub stay : List Cell
  pub older : IsPermutation old (stay ++ (older_entries c.rooms.items ++ (older_entries c.moved.items ++ c.gone.items)))
  pub newer : IsPermutation new (stay ++ (newer_entries c.rooms.items ++ (newer_entries c.moved.items ++ c.added.items)))
  pub moved : All LeavesPeriod c.moved.items
  pub rooms : All ChangesRoom c.rooms.items
  pub in_range : ChangesInRange p c
  pub moved_each : (k : ℕ) → changes_of c.moved.items k ≡ moved_of p old new k
  pub rooms_each : (k : ℕ) → changes_of c.rooms.items k ≡ rooms_of p old new k
  pub gone_each : (k : ℕ) → entries_of c.gone.items k ≡ entries_of old k - entries_of new k
  pub added_each : (k : ℕ) → entries_of c.added.items k ≡ entries_of new k - entries_of old k
  pub moved_all : length c.moved.items ≡ moved_count p old new
  pub rooms_all : length c.rooms.items ≡ rooms_count p old new
