-- The pair of a timetable's hard count and cost, and the best timetable of a search.
use Rattle.std.specs.Prelude.{◌≡◌, List}
use Rattle.tt_instance.specs.Problem.{Problem}
use Rattle.tt_instance.specs.declared.cell.Cell.{Cell}
use Rattle.tt_rules.specs.Score.{hard, cost}
use Rattle.tt_walk.specs.Improved.{IsNoWorse}
use Rattle.tt_watch.specs.declared.pair.Pair.{Pair}
use Rattle.tt_walk.specs.declared.best.Best.{Best}

-- the pair of a timetable
pub record IsPairOf (p : Problem) (t : List Cell) (pair : Pair) : Type 0 where
  pub hard_is : pair.hard ≡ hard p t
  pub cost_is : pair.cost ≡ cost p t

-- the best timetable that a search from t has found: no worse than t, with its pair
pub record IsBest (p : Problem) (t : List Cell) (b : Best) : Type 0 where
  pub found : IsNoWorse p t b.entries.items
  pub pair : IsPairOf p b.entries.items b.pair
