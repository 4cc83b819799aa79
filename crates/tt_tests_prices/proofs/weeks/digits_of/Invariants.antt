use Rattle.std.proofs.Common.{◌≡◌, ◌<◌, ◌≤◌, length}
use Rattle.std.specs.Prelude.{All}
use Rattle.tt_tests_prices.proofs.weeks.digits_of.Given as goal

abbrev pub invariant-loop-top : goal.invariant-loop-top
invariant-loop-top l = record {
  long : length l.sizes.items ≡ l.top-index;
  positive : All (λ n. 0 < n) l.sizes.items;
  small : All (λ n. n ≤ 256) l.sizes.items;
}
