use Rattle.std.proofs.Common.{arith}
use Rattle.tt_moves.proofs.rest.WithoutEntry.cost_weight.Goals as goal

pub returns : goal.returns
returns c = λ u rest. record {
  rise = omega (arith, c.room_and_day_rise.ensures.value u rest, c.isolation_change-isolation_change.ensures.alone u rest);
  fall = omega (arith, c.isolation_change-isolation_change.ensures.joined u rest);
}
