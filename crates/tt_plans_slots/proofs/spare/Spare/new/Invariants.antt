use Rattle.tt_plans_slots.specs.Inner.Spares.{IsFull}
use Rattle.tt_plans_slots.proofs.spare.Spare.new.Given as goal

abbrev pub invariant-loop-level : goal.invariant-loop-level
invariant-loop-level l = IsFull l.level l.levels.items
