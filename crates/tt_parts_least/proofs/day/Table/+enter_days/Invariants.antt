-- Each call has one period fewer left.
use Rattle.std.proofs.Common.{length}
use Rattle.tt_parts_least.proofs.day.Table.+enter_days.Given as goal

abbrev pub decreases-enter_days : goal.decreases-enter_days
decreases-enter_days g l = length l.periods.now
