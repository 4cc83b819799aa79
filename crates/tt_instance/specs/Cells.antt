-- The periods and the cells of an instance, and tests of one cell.
use Rattle.std.specs.Prelude.{ℕ, ◌+◌, ◌<◌, ◌==◌, Bool, ◌&&◌, ◌||◌, List, length, map, flat_map}
use Rattle.tt_list_laws.specs.Words.{range_below}
use Rattle.tt_instance.specs.Problem.{Problem}
use Rattle.tt_instance.specs.declared.cell.Cell.{Cell}
use Rattle.tt_instance.specs.declared.cell.Slot.{Slot}

-- The numbers of all courses of the instance, in ascending order.
abbrev pub all_courses : Problem → List ℕ
all_courses p = range_below (length p.courses)

-- The numbers of all rooms of the instance, in ascending order.
abbrev pub all_rooms : Problem → List ℕ
all_rooms p = range_below (length p.rooms)

-- The numbers of all curricula of the instance, in ascending order.
abbrev pub all_curricula : Problem → List ℕ
all_curricula p = range_below (length p.curricula)

-- The numbers of all days of the instance, in ascending order.
abbrev pub all_days : Problem → List ℕ
all_days p = range_below p.days

-- ---- periods of the week

-- Period `s` of day `d`.
abbrev pub slot : ℕ → ℕ → Slot
slot d s = record { day = d; period = s }

-- Each period of each day, in order.
abbrev pub all_slots : Problem → List Slot
all_slots p = flat_map (λ d. map (slot d) (range_below p.periods)) (all_days p)

-- Whether both are on the same day, in adjacent periods.
abbrev pub next_to : Slot → Slot → Bool
next_to a b = (a.day == b.day) && ((a.period == b.period + 1) || (a.period + 1 == b.period))

-- ---- cells: a course in a room in a period

-- Course `c` in room `r` in period `s` of the week.
abbrev pub cell : ℕ → ℕ → Slot → Cell
cell c r s = record { course = c; room = r; day = s.day; period = s.period }

-- Each course in each room in each period of each day, ordered by course, then by room, by day and by period.
abbrev pub all_cells : Problem → List Cell
all_cells p = flat_map (λ c. flat_map (λ r. map (cell c r) (all_slots p)) (all_rooms p)) (all_courses p)

-- The numbers of a cell are in the range of the instance.
pub record InRange (p : Problem) (e : Cell) : Type 0 where
  pub course : e.course < length p.courses
  pub room : e.room < length p.rooms
  pub day : e.day < p.days
  pub period : e.period < p.periods

-- The day and the period of a cell.
abbrev pub slot_of : Cell → Slot
slot_of e = slot e.day e.period

-- Whether the cell has this course.
abbrev pub is_of : ℕ → Cell → Bool
is_of c e = e.course == c

-- Whether the cell is in this period of the week.
abbrev pub is_at : Slot → Cell → Bool
is_at s e = (e.day == s.day) && (e.period == s.period)

-- Whether the cell is in this room.
abbrev pub is_in : ℕ → Cell → Bool
is_in r e = e.room == r

-- Whether the cell is on this day.
abbrev pub is_on : ℕ → Cell → Bool
is_on d e = e.day == d

-- Whether both have the same course, room, day and period.
abbrev pub same_cell : Cell → Cell → Bool
same_cell a b = (a.course == b.course) && (a.room == b.room) && (a.day == b.day) && (a.period == b.period)
