use Rattle.tt_shortage.specs.Numbers.{AreNumbers}
use Rattle.tt_shortage.proofs.numbers.numbers_in.Given as goal

abbrev pub invariant-loop-number : goal.invariant-loop-number
invariant-loop-number l = AreNumbers l.number l.numbers.items
