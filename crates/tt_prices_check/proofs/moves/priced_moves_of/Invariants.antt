use Rattle.std.proofs.Common.{take}
use Rattle.tt_prices_check.specs.Moves.{AreReady, AreMovesOf}
use Rattle.tt_prices_check.proofs.moves.priced_moves_of.Given as goal

abbrev pub invariant-loop-day : goal.invariant-loop-day
invariant-loop-day l = record {
  moves : AreMovesOf (take l.day-index l.days) l.moves.items;
  ready : AreReady l.digits.sizes.items l.digits.weights.items l.digits.courses l.moves.items;
}
