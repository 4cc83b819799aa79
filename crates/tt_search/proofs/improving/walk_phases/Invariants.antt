use Rattle.std.proofs.Common.{◌≡◌, ◌<◌, ◌≤◌, List, length}
use Rattle.tt_instance.specs.declared.cell.Cell.{Cell}
use Rattle.tt_walk.specs.Improved.{LeadsWithin}
use Rattle.tt_walk.specs.Inner.Pairs.{IsBest}
use Rattle.tt_walk.specs.Inner.Standings.{IsAtBest}
use Rattle.tt_search.proofs.improving.walk_phases.Given as goal

abbrev pub invariant-loop-phase : goal.invariant-loop-phase
invariant-loop-phase g l =
    let start = l.initial.standing in
    let now = l.standing in
    record {
      problem : now.occupied.problem ≡ start.occupied.problem;
      some : 0 < length now.occupied.entries;
      here : IsAtBest now;
      best : (t : List Cell) → IsBest start.occupied.problem t start.best → IsBest start.occupied.problem t now.best;
      within : l.made ≤ l.draws;
      reached : LeadsWithin start.occupied.problem start.occupied.entries l.made now.occupied.entries;
    }
