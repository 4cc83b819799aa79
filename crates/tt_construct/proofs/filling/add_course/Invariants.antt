use Rattle.tt_construct.specs.Inner.Filled.{HasMore}
use Rattle.tt_construct.proofs.filling.add_course.Given as goal

abbrev pub invariant-loop : goal.invariant-loop
invariant-loop l = HasMore l.instance l.course l.counter l.initial.table l.table
