use Rattle.std.proofs.Common.{take}
use Rattle.tt_groups.specs.Rows.{group_of}
use Rattle.tt_prices_file.specs.Inner.Tables.{IsGrownBy}
use Rattle.tt_prices_file.proofs.prices.PriceTable.add_group.Given as goal

abbrev pub invariant-loop-row : goal.invariant-loop-row
invariant-loop-row l = IsGrownBy l.fn.instance (group_of l.fn.group) (take l.row-index l.row-items) l.fn.self l.self
