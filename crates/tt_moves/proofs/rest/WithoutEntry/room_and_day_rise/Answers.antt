use Rattle.std.proofs.Common.{ap, arith}
use Rattle.tt_instance.specs.Courses.{students, capacity}
use Rattle.tt_moves.proofs.rest.WithoutEntry.room_and_day_rise.Goals as goal

pub returns-clause-value : goal.returns-clause-value
returns-clause-value c = λ u rest.
    let x = c.args.entry in
    let seated = ap (λ z. students z x.course) c.instance-instance.ensures in
    let seats = ap (λ z. capacity z x.room) c.instance-instance.ensures in
    omega (
      arith,
      seated,
      seats,
      c.students-students.ensures.value,
      c.capacity.ensures.value,
      c.saturating_sub-excess.ensures,
      c.spread_cost.ensures.value u rest,
    )
