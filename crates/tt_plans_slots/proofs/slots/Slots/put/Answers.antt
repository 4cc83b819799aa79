use Rattle.std.proofs.Common.{set, sym, subst}
use Rattle.tt_plans_slots.specs.Teaching.{Teaching, CanBeTaught, AddsCourse, RaisesMost}
use Rattle.tt_plans_slots.specs.Inner.States.{teaching}
use Rattle.tt_plans_slots.proofs.Changes.{IsAdded, added_from, adds, level_read, raises, still_with}
use Rattle.tt_plans_slots.proofs.slots.Slots.put.Goals as goal
use Rattle.tt_plans_slots.proofs.slots.Slots.put.Goals.{After-take_from}

-- the row and the line of the slot are those after the course was added
added : (c : After-take_from) → IsAdded c.self.inside.instance.now c.self.inside.sets.items c.self.inside.spares.items c.args.course
    c.args.slot c.insert.new.self c.take_from.new.self
added c =
    let a = c.self.inside in
    let p = a.instance.now in
    let can = subst (λ (v : Teaching). CanBeTaught v c.args.course c.args.slot) (sym c.self.view_is) c.requires in
    let lev = level_read p a.levels.items c.args.course c.index.result.now c.self.invariant.levels can.course c.index.ensures in
    added_from p a.sets.items a.spares.items c.args.course c.args.slot c.index.result.now c.index_mut-courses.result.now c.insert.new.self
    c.index_mut-spare.result.now c.take_from.new.self c.self.invariant.teaching can lev c.index_mut-courses.ensures.value c.insert.ensures
    c.index_mut-spare.ensures.value c.take_from.ensures.len c.take_from.ensures.each

pub invariant_of-self : goal.invariant_of-self
invariant_of-self c =
    let a = c.self.inside in
    record {
      levels = c.self.invariant.levels;
      teaching = still_with a.instance.now a.sets.items a.spares.items c.args.course c.args.slot c.insert.new.self c.take_from.new.self
          (added (goal.at.invariant_of-self c).After-take_from);
    }

pub returns-clause-added : goal.returns-clause-added
returns-clause-added c =
    let a = c.self.inside in
    let p = a.instance.now in
    let after : Teaching =
    teaching p (set a.sets.items c.args.slot c.insert.new.self) (set a.spares.items c.args.slot c.take_from.new.self) in
    subst (λ (v : Teaching). AddsCourse v after c.args.course c.args.slot) c.self.view_is
    (adds p a.sets.items a.spares.items c.args.course c.args.slot c.insert.new.self c.take_from.new.self
    (added (goal.at.returns-clause-added c).After-take_from))

pub returns-clause-most : goal.returns-clause-most
returns-clause-most c =
    let a = c.self.inside in
    let p = a.instance.now in
    let after : Teaching =
    teaching p (set a.sets.items c.args.slot c.insert.new.self) (set a.spares.items c.args.slot c.take_from.new.self) in
    subst (λ (v : Teaching). RaisesMost v after c.args.course c.args.slot) c.self.view_is
    (raises p a.sets.items a.spares.items c.args.course c.args.slot c.insert.new.self c.take_from.new.self
    (added (goal.at.returns-clause-most c).After-take_from))
