-- The meaning of the sums of a score's parts.
use Rattle.std.proofs.Common.{◌≡◌, ◌+◌, List, arith}
use Rattle.std.specs.Prelude.{◌↔◌}
use Rattle.tt_instance.specs.Problem.{Problem}
use Rattle.tt_instance.specs.declared.cell.Cell.{Cell}
use Rattle.tt_table.specs.Table.{IsTimetable}
use Rattle.tt_rules.specs.Score.{IsScore, IsFeasible, hard, cost}
use Rattle.tt_rules.specs.declared.counts.Score.{Score}

-- the four hard parts add up to the number of violations of the hard rules
pub hard_is : (p : Problem) (t : List Cell) (s : Score) → IsScore p t s → s.lectures + s.conflicts + s.availability + s.room_occupancy
    ≡ hard p t
hard_is p t s is = omega arith

-- the four soft parts add up to the cost
pub cost_is : (p : Problem) (t : List Cell) (s : Score) → IsScore p t s → s.room_capacity + s.min_working_days + s.compactness
    + s.room_stability ≡ cost p t
cost_is p t s is = omega arith

-- the hard parts add up to 0 exactly if the timetable breaks no hard rule
pub feasible_is : (p : Problem) (t : List Cell) (s : Score) → IsTimetable p t → IsScore p t s
    → (s.lectures + s.conflicts + s.availability + s.room_occupancy ≡ 0) ↔ IsFeasible p t
feasible_is p t s in_range is = (
  λ none. record {
    timetable = in_range;
    lectures = omega arith;
    conflicts = omega arith;
    availability = omega arith;
    room_occupancy = omega arith;
  },
  λ (ok : IsFeasible p t). omega arith,
)
