use Rattle.tt_moves.proofs.Stepping.{without_one}
use Rattle.tt_moves.proofs.rest.WithoutEntry.without.Goals as goal

pub returns-clause-rest : goal.returns-clause-rest
returns-clause-rest c = rw c.entry-gone.ensures.value (without_one c.args.occupied c.entry-gone.ensures.in_range c.args.entry c.requires)
