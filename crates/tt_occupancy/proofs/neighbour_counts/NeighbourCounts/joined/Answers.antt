use Rattle.std.proofs.Common.{arith}
use Rattle.std.proofs.lemmas.Bool.Decides.{nat_tests}
use Rattle.tt_occupancy.proofs.TakenPeriods.{joined_none, joined_is}
use Rattle.tt_occupancy.proofs.neighbour_counts.NeighbourCounts.joined.Goals as goal

pub returns-then-self-gt0-clause-value : goal.returns-then-self-gt0-clause-value
returns-then-self-gt0-clause-value c = λ p u q d s ok. joined_none p u q d s c.args.self ok c.if-self-gt0.true

pub returns-clause-value : goal.returns-clause-value
returns-clause-value c = λ p u q d s ok.
    let e = joined_is p u q d s c.args.self ok c.if-self-gt0.false in
    grind (arith, nat_tests)
