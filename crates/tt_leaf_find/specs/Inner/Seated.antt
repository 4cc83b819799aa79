-- Periods that seat all students of a course, as the code counts them.
use Rattle.std.specs.Prelude.{ℕ, ◌==◌, Bool, false, List, Option, Some, None, count_by}
use Rattle.tt_instance.specs.Problem.{Problem}
use Rattle.tt_instance.specs.Cells.{all_slots}
use Rattle.tt_instance.specs.declared.cell.Slot.{Slot}
use Rattle.tt_path.specs.Live.{least_excess}
use Rattle.tt_path.specs.declared.facts.Fact.{Fact}

-- There is an excess, and it is 0.
abbrev pub is_nothing : Option ℕ → Bool
is_nothing None = false
is_nothing (Some n) = n == 0

-- Some live cell of the course in the period seats all its students.
abbrev pub is_seated : Problem → List Fact → ℕ → Slot → Bool
is_seated p path c s = is_nothing (least_excess p path c s)

-- The number of periods that have a live cell of the course with seats for all its students.
abbrev pub seated_periods : Problem → List Fact → ℕ → ℕ
seated_periods p path c = count_by (is_seated p path c) (all_slots p)
