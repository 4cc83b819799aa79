use Rattle.tt_moves.proofs.exchanges.exchange_of_move.Goals as goal
use Rattle.tt_moves.proofs.Stepping.{moved_by_one}

pub returns : goal.returns
returns c =
    moved_by_one c.args.occupied c.args.entry c.args.room c.args.day c.args.period c.without-rest.result c.without-rest.ensures.value
    c.without-rest.ensures.rest c.requires.entry c.requires.room c.requires.day c.requires.period
