-- Searches below no fact, which each timetable fits.
use Rattle.std.proofs.Common.{List, [], Option}
use Rattle.std.proofs.lemmas.List.Elements.{All-nil}
use Rattle.tt_instance.specs.Problem.{Problem}
use Rattle.tt_instance.specs.declared.cell.Cell.{Cell}
use Rattle.tt_rules.specs.Score.{IsFeasible}
use Rattle.tt_path.specs.Facts.{Holds}
use Rattle.tt_branch.specs.Outcomes.{BeginsAnew, IsNoDearer}

-- the best timetable costs no more than a feasible one to which the descent led
pub begun_feasible : (p : Problem) (best : Option (List Cell)) (b : BeginsAnew p [] best) → IsFeasible p b.end → IsNoDearer p best b.end
begun_feasible p best b feasible = b.kept feasible (All-nil (Holds p b.end))
