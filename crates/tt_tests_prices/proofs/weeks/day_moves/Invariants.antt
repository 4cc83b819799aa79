use Rattle.std.specs.Prelude.{All}
use Rattle.tt_prices_check.specs.Moves.{IsSmall}
use Rattle.tt_tests_prices.proofs.weeks.day_moves.Given as goal

abbrev pub invariant-loop-entry : goal.invariant-loop-entry
invariant-loop-entry l = All IsSmall l.days.items
