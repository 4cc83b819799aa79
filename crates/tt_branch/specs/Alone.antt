-- Paths that leave exactly one timetable.
use Rattle.std.specs.Prelude.{◌≡◌, List, filter}
use Rattle.std.specs.List.Sorted.{IsPermutation}
use Rattle.tt_instance.specs.Problem.{Problem}
use Rattle.tt_instance.specs.Cells.{all_cells}
use Rattle.tt_instance.specs.declared.cell.Cell.{Cell}
use Rattle.tt_rules.specs.Score.{IsFeasible, cost}
use Rattle.tt_path.specs.Facts.{Fits}
use Rattle.tt_path.specs.Live.{is_live}
use Rattle.tt_path.specs.declared.facts.Fact.{Fact}
use Rattle.tt_leaf_rules.specs.Claims.{total_of}
use Rattle.tt_leaf_find.specs.Best.{best_claims}

-- The timetable is feasible and fits the path, each other timetable that does has the same entries, and the value of the best claims is its cost.
pub record IsAlone (p : Problem) (path : List Fact) (t : List Cell) : Type 0 where
  pub feasible : IsFeasible p t
  pub fits : Fits p t path
  pub only : (u : List Cell) → IsFeasible p u → Fits p u path → IsPermutation u t
  pub worth : total_of p path (best_claims p path) ≡ cost p t

-- The live cells of the path are the one timetable that fits it.
abbrev pub LeavesOne : Problem → List Fact → Type 0
LeavesOne p path = IsAlone p path (filter (is_live p path) (all_cells p))
