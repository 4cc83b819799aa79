use Rattle.tt_plans_slots.specs.Inner.Spares.{AreFull}
use Rattle.tt_plans_slots.proofs.tables.full_spares.Given as goal

abbrev pub invariant-loop-slot : goal.invariant-loop-slot
invariant-loop-slot l = AreFull l._slot l.rooms l.spares.items
