use Rattle.std.proofs.Common.{ap, arith}
use Rattle.tt_list_laws.proofs.Sums.{one_if}
use Rattle.tt_moves.proofs.rest.WithoutEntry.hard_weight.Goals as goal

pub returns-clause-value : goal.returns-clause-value
returns-clause-value c = λ u rest.
    let shares = ap one_if (c.has_shared_room.ensures u rest) in
    omega (arith, shares, c.one_if.ensures, c.slot_weight.ensures.value u rest)
