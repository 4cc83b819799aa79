use Rattle.std.proofs.Common.{get_or, take, sym, subst, arith}
use Rattle.std.proofs.lemmas.List.{take_all, take_more}
use Rattle.tt_occupancy.specs.Inner.NeighbourCounts.{IsIsolationChange}
use Rattle.tt_occupancy.proofs.isolation_change.isolation_change_at.Goals as goal

pub loop-row-preserved : goal.loop-row-preserved
loop-row-preserved c =
    let rows = c.args.rows.now in
    let k = c.loop-row.row-index in
    record {
      isolation_change = λ p u ok tally.
          subst (λ z. IsIsolationChange p u z c.args.day c.args.period c.with-isolation_change.result)
          (sym (take_more rows k 0 c.loop-row-test.true))
          (c.with-isolation_change.ensures.isolation_change p u (take k rows) (get_or rows k 0) c.args.day c.args.period
          (c.loop-row.invariant.isolation_change p u ok tally) (c.neighbour_counts.ensures.neighbour_counts p u ok tally));
      alone_at_most = omega (arith, c.with-isolation_change.ensures.alone_at_most);
      joined_at_most = omega (arith, c.with-isolation_change.ensures.joined_at_most, c.neighbour_counts.ensures.at_most);
    }

pub returns-clause-isolation_change : goal.returns-clause-isolation_change
returns-clause-isolation_change c = λ p u ok tally.
    subst (λ z. IsIsolationChange p u z c.args.day c.args.period c.loop-row.isolation_change)
    (take_all c.loop-row.row-index c.args.rows.now c.loop-row-test.false) (c.loop-row.invariant.isolation_change p u ok tally)
