use Rattle.std.proofs.Common.{ap, arith}
use Rattle.tt_instance.specs.Courses.{min_days}
use Rattle.tt_moves.proofs.rest.WithoutEntry.spread_cost.Goals as goal

pub returns-clause-value : goal.returns-clause-value
returns-clause-value c = λ u rest.
    let wanted = ap (λ z. min_days z c.args.entry.course) c.instance.ensures in
    omega (
      arith,
      wanted,
      c.min_days-wanted.ensures.value,
      c.saturating_sub-days.ensures,
      c.saturating_sub.ensures,
      c.days_with.ensures.value u rest,
      c.rooms_with.ensures.value u rest,
    )
