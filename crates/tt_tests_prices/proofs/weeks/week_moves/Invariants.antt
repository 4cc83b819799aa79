use Rattle.std.proofs.Common.{◌≡◌, length}
use Rattle.std.specs.Prelude.{All}
use Rattle.tt_prices_check.specs.Moves.{AreReady}
use Rattle.tt_tests_prices.proofs.weeks.week_moves.Given as goal

abbrev pub invariant-loop-entries : goal.invariant-loop-entries
invariant-loop-entries l = record {
  long : length l.lists.items ≡ l.entries-index;
  ready : All (λ v. AreReady l.digits.sizes.items l.digits.weights.items l.digits.courses v.items) l.lists.items;
}
