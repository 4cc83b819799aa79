-- Timetables that are filled course by course.
use Rattle.std.specs.Prelude.{◌≡◌, ℕ, ◌+◌, ◌==◌, List, length, cond}
use Rattle.tt_instance.specs.Problem.{Problem}
use Rattle.tt_instance.specs.declared.cell.Cell.{Cell}
use Rattle.tt_table.specs.Table.{IsTimetable}
use Rattle.tt_rules.specs.Hard.{entries_of}

-- whether the second list has n more entries of a course, and all are in range if those of the first are
pub record HasMore (p : Problem) (c n : ℕ) (old new : List Cell) : Type 0 where
  pub in_range : IsTimetable p old → IsTimetable p new
  pub size : length new ≡ length old + n
  pub counts : (k : ℕ) → entries_of new k ≡ entries_of old k + cond (c == k) n 0
