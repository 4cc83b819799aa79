use Rattle.std.proofs.Common.{◌≡◌, ◌*◌, arith}
use Rattle.tt_plans_slots.specs.Teaching.{slot_count}
use Rattle.tt_plans_slots.proofs.Untaught.{empty_of, full_of, untaught, untaught_state}
use Rattle.tt_plans_slots.proofs.slots.Slots.new.Goals as goal

pub invariant_of-result : goal.invariant_of-result
invariant_of-result c =
    let p = c.args.instance.now in
    let slots : c.days.result * c.periods.result ≡ slot_count p = rw (c.days.ensures.value, c.periods.ensures.value) in
    record {
      levels = c.in_ok-levels.ensures;
      teaching = untaught_state p c.in_ok-sets.sets.items c.in_ok-spares.spares.items
          (empty_of p _ c.courses.result c.in_ok-sets.sets.items slots c.courses.ensures.value c.in_ok-sets.ensures)
          (full_of p _ c.rooms.result c.in_ok-spares.spares.items slots c.rooms.ensures.value c.in_ok-spares.ensures)
          (omega (arith, c.courses.ensures.value, c.courses.ensures.within)) (omega (arith, c.rooms.ensures.value, c.rooms.ensures.within));
    }

pub returns-clause-untaught : goal.returns-clause-untaught
returns-clause-untaught c =
    let p = c.args.instance.now in
    let slots : c.days.result * c.periods.result ≡ slot_count p = rw (c.days.ensures.value, c.periods.ensures.value) in
    untaught p c.in_ok-sets.sets.items c.in_ok-spares.spares.items
    (empty_of p _ c.courses.result c.in_ok-sets.sets.items slots c.courses.ensures.value c.in_ok-sets.ensures)
    (full_of p _ c.rooms.result c.in_ok-spares.spares.items slots c.rooms.ensures.value c.in_ok-spares.ensures)
