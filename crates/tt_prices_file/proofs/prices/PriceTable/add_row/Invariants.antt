use Rattle.std.proofs.Common.{◌≡◌}
use Rattle.tt_prices_file.proofs.RowAdded.{AddsFirst}
use Rattle.tt_prices_file.proofs.prices.PriceTable.add_row.Given as goal

abbrev pub invariant-loop-period : goal.invariant-loop-period
invariant-loop-period l = record {
  slots : l.self.slots ≡ l.fn.self.slots;
  first : AddsFirst l.fn.self.sums.items l.fn.row.prices.items l.start l.period l.self.sums.items;
}
