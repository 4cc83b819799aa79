use Rattle.std.proofs.Common.{◌-◌, ap, arith}
use Rattle.std.specs.Prelude.{◌==◌}
use Rattle.tt_list_laws.proofs.Sums.{one_if}
use Rattle.tt_moves.proofs.Rests.{some_used, some_taken, used_anew_is}
use Rattle.tt_moves.proofs.rest.WithoutEntry.days_with.Goals as goal

pub used_anew-requires-clause-enough : goal.used_anew-requires-clause-enough
used_anew-requires-clause-enough c =
    let r = c.args.self.now in
    let p = r.occupied.now.problem in
    let x = c.args.entry in
    let u = c.requires.rest.0 in
    let rest = c.requires.rest.1 in
    let one = ap (λ v. one_if (v == 1)) c.on_day.ensures.count in
    omega (
      arith,
      one,
      c.days_used.ensures.count,
      some_used r u rest p.days (λ e. e.day) x c.requires.course rest.gone.day c.requires.in_range.day,
    )

pub used_anew-requires-clause-counted : goal.used_anew-requires-clause-counted
used_anew-requires-clause-counted c =
    let r = c.args.self.now in
    let p = r.occupied.now.problem in
    let x = c.args.entry in
    let u = c.requires.rest.0 in
    let rest = c.requires.rest.1 in
    omega (
      arith,
      c.on_day-2.ensures.count,
      some_taken r u rest p.days (λ e. e.day) x c.requires.course rest.gone.day c.requires.in_range.day,
    )

pub returns-clause-value : goal.returns-clause-value
returns-clause-value c = λ u rest.
    let r = c.args.self.now in
    let p = r.occupied.now.problem in
    let x = c.args.entry in
    let one = ap (λ v. one_if (v == 1)) c.on_day.ensures.count in
    let none = ap (λ v. one_if ((v - one_if (r.gone.day == x.day)) == 0)) c.on_day-2.ensures.count in
    omega (
      arith,
      one,
      none,
      c.used_anew.ensures.value,
      c.days_used.ensures.count,
      used_anew_is r u rest p.days (λ e. e.day) x c.requires.course rest.gone.day c.requires.in_range.day,
    )
