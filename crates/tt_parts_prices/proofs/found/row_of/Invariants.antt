-- All prices so far are small.
use Rattle.std.proofs.Common.{All}
use Rattle.tt_groups.specs.Limits.{IsPrice}
use Rattle.tt_parts_prices.proofs.found.row_of.Given as goal

abbrev pub invariant-loop-slot : goal.invariant-loop-slot
invariant-loop-slot l = All IsPrice l.prices.items
