use Rattle.std.proofs.Common.{◌<◌, length, sym, ap, ◌∙◌, subst}
use Rattle.std.specs.Prelude.{remove}
use Rattle.std.proofs.lemmas.Option.{get_or_from_slice_get}
use Rattle.tt_occupancy.specs.Filled.{Filled, no_entry, entry_at}
use Rattle.tt_occupancy.proofs.Replaced.{counted_front, counted_set}
use Rattle.tt_occupancy.proofs.occupied.Occupied.replace.Goals as goal

pub recount-self-inside-requires-clause-counted : goal.recount-self-inside-requires-clause-counted
recount-self-inside-requires-clause-counted c =
    let s = c.self.inside in
    let i = c.args.index in
    let inside = subst (λ (z : Filled). i < length z.entries) (sym c.self.view_is) c.requires.inside in
    (remove s.table i, counted_front s.instance.now s.table i inside c.get-from.result s.tables s.score c.get-from.ensures c.self.invariant)

pub recount-self-inside-requires-clause-course : goal.recount-self-inside-requires-clause-course
recount-self-inside-requires-clause-course c =
    let i = c.args.index in
    ap (λ z. z.course) (sym (get_or_from_slice_get c.self.inside.table i c.get-from.result no_entry c.get-from.ensures))
    ∙ ap (λ (z : Filled). (entry_at z.entries i).course) c.self.view_is ∙ c.requires.course

pub invariant_of-self : goal.invariant_of-self
invariant_of-self c =
    let s = c.self.inside in
    let p = s.instance.now in
    let t = s.table in
    let i = c.args.index in
    let inside = subst (λ (z : Filled). i < length z.entries) (sym c.self.view_is) c.requires.inside in
    let front = counted_front p t i inside c.get-from.result s.tables s.score c.get-from.ensures c.self.invariant in
    counted_set p t i inside c.args.entry c.recount-self-inside.new.tables c.recount-self-inside.result c.set.new.self c.set.ensures
    c.self.invariant.in_range
    (c.recount-self-inside.ensures (remove t i) front)
