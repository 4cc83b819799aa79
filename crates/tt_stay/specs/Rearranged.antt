-- Timetables whose entries are those of another one, at other places.
use Rattle.std.specs.Prelude.{◌≡◌, List, map}
use Rattle.tt_instance.specs.Problem.{Problem}
use Rattle.tt_instance.specs.declared.cell.Cell.{Cell}
use Rattle.tt_table.specs.Table.{IsTimetable}

-- u is a timetable with the same course at each place of the list as t.
pub record IsRearranged (p : Problem) (t u : List Cell) : Type 0 where
  pub in_range : IsTimetable p u
  pub courses : map (λ e. e.course) u ≡ map (λ e. e.course) t
