use Rattle.tt_construct.specs.Constructed.{IsConstructed}
use Rattle.tt_construct.proofs.constructing.best_of_rounds.Given as goal

abbrev pub invariant-loop : goal.invariant-loop
invariant-loop l = IsConstructed l.instance l.best
