use Rattle.std.proofs.Common.{arith}
use Rattle.std.proofs.lemmas.Int.{ints}
use Rattle.tt_moves.proofs.within.change_within.Goals as goal

pub returns-then-hard-limit-clause-above : goal.returns-then-hard-limit-clause-above
returns-then-hard-limit-clause-above c =
    let hard = c.hard_change-hard.ensures c.args.occupied.now c.args.step c.exchanges_of-exchanges.ensures in
    grind (arith, ints)
