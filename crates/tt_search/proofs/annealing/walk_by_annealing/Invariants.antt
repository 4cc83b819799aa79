use Rattle.std.proofs.Common.{◌≡◌, List}
use Rattle.tt_instance.specs.declared.cell.Cell.{Cell}
use Rattle.tt_walk.specs.Improved.{courses_of, LeadsWithin}
use Rattle.tt_walk.specs.Inner.Pairs.{IsBest}
use Rattle.tt_search.proofs.annealing.walk_by_annealing.Given as goal

abbrev pub invariant-loop : goal.invariant-loop
invariant-loop g l =
    let start = l.initial.standing in
    let now = l.standing in
    record {
      problem : now.occupied.problem ≡ start.occupied.problem;
      courses : courses_of now.occupied.entries ≡ courses_of start.occupied.entries;
      reached : start.best.entries.items ≡ l.first → LeadsWithin start.occupied.problem l.first l.draws now.best.entries.items;
      best : (t : List Cell) → courses_of start.occupied.entries ≡ courses_of t → IsBest start.occupied.problem t start.best
          → IsBest start.occupied.problem t now.best;
    }
