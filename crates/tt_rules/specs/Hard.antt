-- The four hard rules, counted (International Timetabling Competition 2007, track 3, the rules Lectures, Conflicts, Availability
-- and Room occupancy). A count is 0 exactly if the rule is respected; its number above 0 is this project's own choice.
use Rattle.std.specs.Prelude.{ℕ, ◌+◌, ◌-◌, min, max, ◌==◌, Bool, ◌&&◌, List, sum_by, count_by}
use Rattle.std.specs.List.{list_any}
use Rattle.tt_list_laws.specs.Words.{count_pairs}
use Rattle.tt_instance.specs.Problem.{Problem}
use Rattle.tt_instance.specs.Cells.{all_courses, all_rooms, all_slots, is_of, is_at, is_in}
use Rattle.tt_instance.specs.Courses.{lectures, conflict, unavailable}
use Rattle.tt_instance.specs.declared.cell.Cell.{Cell}
use Rattle.tt_instance.specs.declared.cell.Slot.{Slot}

-- The number of entries that the course has in the timetable.
abbrev pub entries_of : List Cell → ℕ → ℕ
entries_of t c = count_by (is_of c) t

-- The number of periods in which the course is taught, each counted once.
abbrev pub periods_of : Problem → List Cell → ℕ → ℕ
periods_of p t c = count_by (λ s. list_any (λ e. is_of c e && is_at s e) t) (all_slots p)

-- How far a course is from its number of lectures, plus how many of its entries share a period with an earlier one.
abbrev pub lectures_off : Problem → List Cell → ℕ → ℕ
lectures_off p t c =
    (max (lectures p c) (entries_of t c) - min (lectures p c) (entries_of t c)) + (entries_of t c - periods_of p t c)

-- Lectures: all lectures of a course are placed, in distinct periods.
abbrev pub lectures_count : Problem → List Cell → ℕ
lectures_count p t = sum_by (lectures_off p t) (all_courses p)

-- Both are in the same period, and their courses conflict.
abbrev pub collide : Problem → Cell → Cell → Bool
collide p a b = (a.day == b.day) && (a.period == b.period) && conflict p a.course b.course

-- Conflicts: no two entries of one period have courses that conflict.
abbrev pub conflicts_count : Problem → List Cell → ℕ
conflicts_count p t = count_pairs (collide p) t

-- Availability: no entry is in a period that is unavailable for its course.
abbrev pub availability_count : Problem → List Cell → ℕ
availability_count p t = count_by (λ e. unavailable p e.course e.day e.period) t

-- The number of entries that the timetable has in the room in this period of the week.
abbrev pub entries_in : List Cell → ℕ → Slot → ℕ
entries_in t r s = count_by (λ e. is_in r e && is_at s e) t

-- Room occupancy: each entry of a room and a period except the first.
abbrev pub occupancy_count : Problem → List Cell → ℕ
occupancy_count p t = sum_by (λ r. sum_by (λ s. entries_in t r s - 1) (all_slots p)) (all_rooms p)
