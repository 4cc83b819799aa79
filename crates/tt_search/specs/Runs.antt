-- Several improvements in turn.
use Rattle.std.specs.Prelude.{◌≡◌, ℕ, zero, suc, ◌≤◌, ◌⊎◌, List}
use Rattle.tt_instance.specs.Problem.{Problem}
use Rattle.tt_instance.specs.declared.cell.Cell.{Cell}
use Rattle.tt_walk.specs.Improved.{IsDescended}

-- This many improvements, each with at most `draws` draws and `steps` steps, lead from the first timetable to the last.
abbrev pub Runs : Problem → List Cell → ℕ → ℕ → ℕ → List Cell → Type 0
Runs p t draws steps zero last = last ≡ t
Runs p t draws steps (suc n) last = (before : List Cell) × Runs p t draws steps n before × IsDescended p before draws steps last

-- At most `runs` such improvements lead from the first timetable to the last, and exactly that many unless the search was ended.
pub record RunsUntil (p : Problem) (t : List Cell) (draws steps runs : ℕ) (ended : Type 0) (last : List Cell) : Type 0 where
  pub made : ℕ
  pub at_most : made ≤ runs
  pub all : (made ≡ runs) ⊎ ended
  pub in_runs : Runs p t draws steps made last
