use Rattle.std.proofs.Common.{[], ◌∷◌}
use Rattle.tt_path_tables.specs.Inner.Slots.{is_left_in, IsNone}
use Rattle.tt_path_tables.proofs.periods.first_left_to.Given as goal

abbrev pub invariant-loop-slot : goal.invariant-loop-slot
invariant-loop-slot l = IsNone (is_left_in l.basis.instance.now l.basis.free.now.words l.pattern (l.course ∷ [])) l.fn.from l.slot
