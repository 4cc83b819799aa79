use Rattle.std.proofs.Common.{◌-◌, length, ap, arith}
use Rattle.std.specs.Prelude.{◌==◌}
use Rattle.tt_list_laws.proofs.Sums.{one_if}
use Rattle.tt_moves.proofs.Rests.{some_used, some_taken, used_anew_is}
use Rattle.tt_moves.proofs.rest.WithoutEntry.rooms_with.Goals as goal

pub used_anew-requires-clause-enough : goal.used_anew-requires-clause-enough
used_anew-requires-clause-enough c =
    let r = c.args.self.now in
    let p = r.occupied.now.problem in
    let x = c.args.entry in
    let u = c.requires.rest.0 in
    let rest = c.requires.rest.1 in
    let one = ap (λ v. one_if (v == 1)) c.course_in_room.ensures.count in
    omega (
      arith,
      one,
      c.rooms_used.ensures.count,
      some_used r u rest (length p.rooms)
          (λ e. e.room) x c.requires.course rest.gone.room c.requires.in_range.room,
    )

pub used_anew-requires-clause-counted : goal.used_anew-requires-clause-counted
used_anew-requires-clause-counted c =
    let r = c.args.self.now in
    let p = r.occupied.now.problem in
    let x = c.args.entry in
    let u = c.requires.rest.0 in
    let rest = c.requires.rest.1 in
    omega (
      arith,
      c.course_in_room-2.ensures.count,
      some_taken r u rest (length p.rooms)
          (λ e. e.room) x c.requires.course rest.gone.room c.requires.in_range.room,
    )

pub returns-clause-value : goal.returns-clause-value
returns-clause-value c = λ u rest.
    let r = c.args.self.now in
    let p = r.occupied.now.problem in
    let x = c.args.entry in
    let one = ap (λ v. one_if (v == 1)) c.course_in_room.ensures.count in
    let none = ap (λ v. one_if ((v - one_if (r.gone.room == x.room)) == 0)) c.course_in_room-2.ensures.count in
    omega (
      arith,
      one,
      none,
      c.used_anew.ensures.value,
      c.rooms_used.ensures.count,
      used_anew_is r u rest (length p.rooms)
          (λ e. e.room) x c.requires.course rest.gone.room c.requires.in_range.room,
    )
