use Rattle.std.proofs.Common.{arith}
use Rattle.tt_plans_slots.proofs.Untaught.{empty_of, full_of, untaught, untaught_state}
use Rattle.tt_plans_slots.proofs.slots.Slots.clear.Goals as goal

pub invariant_of-self : goal.invariant_of-self
invariant_of-self c =
    let a = c.self.inside in
    let p = a.instance.now in
    let state = c.self.invariant.teaching in
    record {
      levels = c.self.invariant.levels;
      teaching = untaught_state p c.clear_sets.new.sets.items c.refill_spares.new.spares.items
          (empty_of p _ c.courses.result c.clear_sets.new.sets.items state.shaped.rows c.courses.ensures.value c.clear_sets.ensures)
          (full_of p _ c.rooms.result c.refill_spares.new.spares.items state.shaped.spares c.rooms.ensures.value c.refill_spares.ensures)
          (omega (arith, c.courses.ensures.value, c.courses.ensures.within)) (omega (arith, c.rooms.ensures.value, c.rooms.ensures.within));
    }

pub returns-clause-untaught : goal.returns-clause-untaught
returns-clause-untaught c =
    let a = c.self.inside in
    let p = a.instance.now in
    let state = c.self.invariant.teaching in
    untaught p c.clear_sets.new.sets.items c.refill_spares.new.spares.items
    (empty_of p _ c.courses.result c.clear_sets.new.sets.items state.shaped.rows c.courses.ensures.value c.clear_sets.ensures)
    (full_of p _ c.rooms.result c.refill_spares.new.spares.items state.shaped.spares c.rooms.ensures.value c.refill_spares.ensures)
