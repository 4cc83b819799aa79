use Rattle.std.proofs.Common.{ap, arith}
use Rattle.tt_occupancy.proofs.TakenPeriods.{none_taken}
use Rattle.tt_moves.proofs.rest.WithoutEntry.entries_at.Goals as goal

pub returns-then-period-periods-clause-value : goal.returns-then-period-periods-clause-value
returns-then-period-periods-clause-value c = λ u rest.
    let p = c.args.self.now.occupied.now.problem in
    none_taken p u c.args.curriculum c.args.day c.args.period rest.in_range (let e = ap (λ z. z.periods) c.instance.ensures in
    omega (arith, c.periods.ensures.value))
