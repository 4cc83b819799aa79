use Rattle.std.proofs.Common.{◌<◌, length, refl, sym, ap, subst, arith}
use Rattle.std.specs.Prelude.{remove}
use Rattle.tt_instance.specs.Problem.{Problem}
use Rattle.tt_list_laws.proofs.Sums.{one_if}
use Rattle.tt_moves.proofs.Slots.{below-worse}
use Rattle.tt_moves.specs.declared.rest.WithoutEntry.{WithoutEntry}
use Rattle.tt_moves.proofs.slot.next_room.Goals as goal

pub slot_weight-after-requires : goal.slot_weight-after-requires
slot_weight-after-requires c =
    let a = c.args in
    let rest = c.without-rest.ensures.rest in
    let at = rest.gone in
    let same = sym (ap (λ (z : WithoutEntry). z.occupied.now.problem) c.without-rest.ensures.value) in
    record {
      in_range = record {
        course = at.course;
        room = at.room;
        day = subst (λ (p : Problem). a.slot.day < p.days) same c.requires.day;
        period = subst (λ (p : Problem). a.slot.period < p.periods) same c.requires.period;
      };
      course = refl;
      rest = (remove a.occupied.now.entries a.entry, rest);
    }

pub returns-then-before-after-clause-passed : goal.returns-then-before-after-clause-passed
returns-then-before-after-clause-passed c = λ r from below.
    let a = c.args in
    let u = remove a.occupied.now.entries a.entry in
    let rest = c.without-rest.ensures.rest in
    let before = c.hard_weight-before.ensures.value u rest in
    let after = c.slot_weight-after.ensures.value u rest in
    let more = c.if-before-after.true in
    below-worse a.occupied a.entry a.slot.day a.slot.period c.without-rest.result c.without-rest.ensures.value rest c.requires.entry
    c.requires.day
    c.requires.period
    r
    (omega (arith, below, c.rooms.ensures.value, ap (λ (p : Problem). length p.rooms) c.instance.ensures))
    (omega (arith, before, after, more))

pub returns-clause-passed : goal.returns-clause-passed
returns-clause-passed c = λ r from below.
    let a = c.args in
    let u = remove a.occupied.now.entries a.entry in
    let rest = c.without-rest.ensures.rest in
    let before = c.hard_weight-before.ensures.value u rest in
    let after = c.slot_weight-after.ensures.value u rest in
    let shared = ap one_if (c.next_unshared.ensures.passed r from below u rest) in
    let same = ap (λ (z : WithoutEntry). length z.occupied.now.problem.rooms) c.without-rest.ensures.value in
    below-worse a.occupied a.entry a.slot.day a.slot.period c.without-rest.result c.without-rest.ensures.value rest c.requires.entry
    c.requires.day
    c.requires.period
    r
    (omega (arith, below, c.next_unshared.ensures.within, same))
    (omega (arith, before, after, shared, c.if-after-before.false))
