use Rattle.tt_tests_prices.proofs.weeks.digits_of.Goals as goal

pub new-requires-clause-positive : goal.new-requires-clause-positive
new-requires-clause-positive c = λ j h. c.loop-top.invariant.positive j 0 h

pub new-requires-clause-small : goal.new-requires-clause-small
new-requires-clause-small c = λ j h. c.loop-top.invariant.small j 0 h
