use Rattle.std.proofs.Common.{◌≡◌, ℕ, Bool, true, set, sym, subst, ap, ◌∙◌}
use Rattle.tt_plans_slots.specs.Teaching.{Teaching, taught, RemovesCourse, KeepsMost}
use Rattle.tt_plans_slots.specs.Inner.States.{teaching}
use Rattle.tt_plans_slots.proofs.Changes.{IsRemoved, in_range, keeps_most, level_read, line_fits, removed_from, removes, still_without}
use Rattle.tt_plans_slots.proofs.slots.Slots.leave.Goals as goal
use Rattle.tt_plans_slots.proofs.slots.Slots.leave.Goals.{After-give_from}

-- the answer was yes, so the course is taught there in the state that the tables have
there : (v w : Teaching) (s c : ℕ) (is_taught : Bool) → v ≡ w → is_taught ≡ taught w s c → is_taught ≡ true → taught v s c ≡ true
there v w s c is_taught same is answered = ap (λ (x : Teaching). taught x s c) same ∙ sym is ∙ answered

pub give_from-requires : goal.give_from-requires
give_from-requires c =
    let a = c.self.inside in
    line_fits a.instance.now a.sets.items a.spares.items c.args.course c.args.slot c.index_mut-spare.result.now c.self.invariant.teaching
    (there _ c.args.self.now c.args.slot c.args.course c.is_taught.result c.self.view_is c.is_taught.ensures c.if-not-is_taught.false)
    c.index_mut-spare.ensures.value

-- the row and the line of the slot are those after the course was removed
removed : (c : After-give_from) → IsRemoved c.self.inside.instance.now c.self.inside.sets.items c.self.inside.spares.items c.args.course
    c.args.slot c.remove.new.self c.give_from.new.self
removed c =
    let a = c.self.inside in
    let p = a.instance.now in
    let from : taught (teaching p a.sets.items a.spares.items) c.args.slot c.args.course ≡ true =
    there _ c.args.self.now c.args.slot c.args.course c.is_taught.result c.self.view_is c.is_taught.ensures c.if-not-is_taught.false in
    let state = c.self.invariant.teaching in
    let lev = level_read p a.levels.items c.args.course c.index.result.now c.self.invariant.levels
    (in_range (teaching p a.sets.items a.spares.items) state.shaped c.args.slot c.args.course from).1 c.index.ensures in
    removed_from p a.sets.items a.spares.items c.args.course c.args.slot c.index.result.now c.index_mut-courses.result.now c.remove.new.self
    c.index_mut-spare.result.now c.give_from.new.self state from lev c.index_mut-courses.ensures.value c.remove.ensures
    c.index_mut-spare.ensures.value c.give_from.ensures.len c.give_from.ensures.each

pub invariant_of-self : goal.invariant_of-self
invariant_of-self c =
    let a = c.self.inside in
    record {
      levels = c.self.invariant.levels;
      teaching = still_without a.instance.now a.sets.items a.spares.items c.args.course c.args.slot c.remove.new.self c.give_from.new.self
          (removed (goal.at.invariant_of-self c).After-give_from);
    }

pub returns-clause-removed : goal.returns-clause-removed
returns-clause-removed c =
    let a = c.self.inside in
    let p = a.instance.now in
    let after : Teaching =
    teaching p (set a.sets.items c.args.slot c.remove.new.self) (set a.spares.items c.args.slot c.give_from.new.self) in
    subst (λ (v : Teaching). RemovesCourse v after c.args.course c.args.slot) c.self.view_is
    (removes p a.sets.items a.spares.items c.args.course c.args.slot c.remove.new.self c.give_from.new.self
    (removed (goal.at.returns-clause-removed c).After-give_from))

pub returns-clause-most : goal.returns-clause-most
returns-clause-most c =
    let a = c.self.inside in
    let p = a.instance.now in
    let after : Teaching =
    teaching p (set a.sets.items c.args.slot c.remove.new.self) (set a.spares.items c.args.slot c.give_from.new.self) in
    subst (λ (v : Teaching). KeepsMost v after) c.self.view_is
    (keeps_most p a.sets.items a.spares.items c.args.course c.args.slot c.remove.new.self c.give_from.new.self
    (removed (goal.at.returns-clause-most c).After-give_from))
