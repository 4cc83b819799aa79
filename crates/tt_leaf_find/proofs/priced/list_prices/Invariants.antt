use Rattle.std.proofs.Common.{◌≤◌}
use Rattle.std.specs.Prelude.{All}
use Rattle.tt_leaf.specs.Ranges.{ArePrices}
use Rattle.tt_leaf_find.proofs.priced.list_prices.Given as goal

abbrev pub invariant-loop-number : goal.invariant-loop-number
invariant-loop-number l = record {
  prices : ArePrices l.number l.list.items;
  short : All (λ k. k.1 ≤ 1000000) l.list.items;
}
