use Rattle.std.proofs.Common.{◌∙◌, arith}
use Rattle.tt_occupancy.proofs.TakenPeriods.{none_taken}
use Rattle.tt_occupancy.proofs.isolation_change.entries_at.Goals as goal

pub returns-then-period-week-clause-value : goal.returns-then-period-week-clause-value
returns-then-period-week-clause-value c = λ p u ok tally.
    c.from.ensures ∙ c.get.ensures ∙ tally.counts c.args.row c.args.day c.args.period (omega (arith, c.requires.row, tally.rows))
    (omega (arith, c.requires.day, tally.days)) (omega (arith, tally.periods))

pub returns-else-period-week-clause-value : goal.returns-else-period-week-clause-value
returns-else-period-week-clause-value c = λ p u ok tally.
    none_taken p u c.args.row c.args.day c.args.period ok (omega (arith, tally.periods))
