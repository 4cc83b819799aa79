use Rattle.tt_construct.proofs.Filled.{IsFilledTo}
use Rattle.tt_construct.proofs.filling.fill.Given as goal

abbrev pub invariant-loop-course : goal.invariant-loop-course
invariant-loop-course l = IsFilledTo l.instance l.course l.table
