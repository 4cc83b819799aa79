-- The properties of a constructed timetable.
use Rattle.std.specs.Prelude.{◌≡◌, ℕ, ◌<◌, List, [], length}
use Rattle.tt_instance.specs.Problem.{Problem}
use Rattle.tt_instance.specs.Courses.{lectures}
use Rattle.tt_instance.specs.declared.cell.Cell.{Cell}
use Rattle.tt_table.specs.Table.{IsTimetable}
use Rattle.tt_rules.specs.Hard.{entries_of}

-- Each entry is in range, and each course has exactly as many entries as lectures; without rooms there are no entries.
pub record IsConstructed (p : Problem) (t : List Cell) : Type 0 where
  pub in_range : IsTimetable p t
  pub lectures_placed : 0 < length p.rooms → (c : ℕ) → c < length p.courses → entries_of t c ≡ lectures p c
  pub without_rooms : p.rooms ≡ [] → t ≡ []
