use Rattle.std.proofs.Common.{[]}
use Rattle.tt_best.proofs.start.first_week.Goals as goal

pub returns-then-is_over-clause-week : goal.returns-then-is_over-clause-week
returns-then-is_over-clause-week g c = record { table = c.in_ok-table-2.ensures.table; parts = c.none-parts.ensures c.args.instance.now [] }
