use Rattle.std.proofs.Common.{◌≡◌, None}
use Rattle.tt_best.specs.Weeks.{IsWeek, IsNoWorseThan, BeginsWell}
use Rattle.tt_best.proofs.searching.find_best.Given as goal

abbrev pub invariant-loop-round : goal.invariant-loop-round
invariant-loop-round g l = record {
  week : IsWeek l.instance l.week;
  no_worse : IsNoWorseThan l.instance l.fn.start.table l.week.table;
  begun : l.fn.start.table ≡ None → BeginsWell l.instance l.week.table;
}
