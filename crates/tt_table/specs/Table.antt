-- Timetables.
use Rattle.std.specs.Prelude.{List, All}
use Rattle.tt_instance.specs.Problem.{Problem}
use Rattle.tt_instance.specs.Cells.{InRange}
use Rattle.tt_instance.specs.declared.cell.Cell.{Cell}

-- A timetable of an instance is any list of entries in range, of any length, repeats included.
abbrev pub IsTimetable : Problem → List Cell → Type 0
IsTimetable p t = All (InRange p) t
