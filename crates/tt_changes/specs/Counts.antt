-- How many lectures moved from an older timetable to a newer one. The lectures of a course are alike: what counts is how many
-- the course has in each period, and in each room in each period. The older timetable may break hard rules.
use Rattle.std.specs.Prelude.{ℕ, ◌-◌, min, ◌&&◌, List, sum_by, count_by}
use Rattle.tt_instance.specs.Problem.{Problem}
use Rattle.tt_instance.specs.Cells.{all_courses, all_rooms, all_slots, is_of, is_in, is_at}
use Rattle.tt_instance.specs.declared.cell.Cell.{Cell}
use Rattle.tt_instance.specs.declared.cell.Slot.{Slot}
use Rattle.tt_rules.specs.Hard.{entries_of}

-- The number of entries that the course has in this period of the week.
abbrev pub entries_at : List Cell → ℕ → Slot → ℕ
entries_at t c s = count_by (λ e. is_of c e && is_at s e) t

-- The number of entries that the course has in this room in this period of the week.
abbrev pub entries_in : List Cell → ℕ → ℕ → Slot → ℕ
entries_in t c r s = count_by (λ e. is_of c e && is_in r e && is_at s e) t

-- The number of lectures of the course that kept their period: of each period, as many as both timetables have in it.
abbrev pub kept_periods : Problem → List Cell → List Cell → ℕ → ℕ
kept_periods p old new c = sum_by (λ s. min (entries_at old c s) (entries_at new c s)) (all_slots p)

-- The number of lectures of the course that kept their room and their period: of each, as many as both timetables have there.
abbrev pub kept_places : Problem → List Cell → List Cell → ℕ → ℕ
kept_places p old new c = sum_by (λ r. sum_by (λ s. min (entries_in old c r s) (entries_in new c r s)) (all_slots p)) (all_rooms p)

-- The number of lectures of the course that left their period: all that both timetables have, without those that kept it.
abbrev pub moved_of : Problem → List Cell → List Cell → ℕ → ℕ
moved_of p old new c = min (entries_of old c) (entries_of new c) - kept_periods p old new c

-- The number of lectures of the course that changed only their room: all that kept their period, without those that also kept their room.
abbrev pub rooms_of : Problem → List Cell → List Cell → ℕ → ℕ
rooms_of p old new c = kept_periods p old new c - kept_places p old new c

-- The number of lectures that left their period.
abbrev pub moved_count : Problem → List Cell → List Cell → ℕ
moved_count p old new = sum_by (moved_of p old new) (all_courses p)

-- The number of lectures that changed only their room.
abbrev pub rooms_count : Problem → List Cell → List Cell → ℕ
rooms_count p old new = sum_by (rooms_of p old new) (all_courses p)
