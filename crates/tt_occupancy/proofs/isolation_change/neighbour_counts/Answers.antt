use Rattle.tt_occupancy.proofs.isolation_change.neighbour_counts.Goals as goal

pub returns-clause-neighbour_counts : goal.returns-clause-neighbour_counts
returns-clause-neighbour_counts c = λ p u ok tally. record {
  two_before = c.entries_before.ensures.value p u ok tally;
  before = c.entries_before-2.ensures.value p u ok tally;
  here = c.entries_at.ensures.value p u ok tally;
  after = c.entries_at-2.ensures.value p u ok tally;
  two_after = c.entries_at-3.ensures.value p u ok tally;
}
