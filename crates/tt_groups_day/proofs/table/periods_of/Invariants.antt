use Rattle.std.proofs.Common.{◌≡◌, length}
use Rattle.tt_groups_day.specs.Found.{AreOpened}
use Rattle.tt_groups_day.specs.Sets.{AreAvailable}
use Rattle.tt_groups_day.proofs.table.periods_of.Given as goal

abbrev pub invariant-loop-period : goal.invariant-loop-period
invariant-loop-period l = record {
  whole : length l.periods.items ≡ l.period;
  closed : AreAvailable l.instance l.courses l.day l.periods.items;
  opened : AreOpened l.instance l.courses l.day l.periods.items;
}
