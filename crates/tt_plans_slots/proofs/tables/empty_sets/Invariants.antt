use Rattle.tt_plans_slots.specs.Inner.Spares.{AreEmpty}
use Rattle.tt_plans_slots.proofs.tables.empty_sets.Given as goal

abbrev pub invariant-loop-slot : goal.invariant-loop-slot
invariant-loop-slot l = AreEmpty l._slot l.courses l.sets.items
