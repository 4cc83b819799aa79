use Rattle.std.proofs.Common.{arith}
use Rattle.std.proofs.lemmas.Bool.Decides.{nat_tests}
use Rattle.tt_occupancy.proofs.isolation_change.entries_before.Goals as goal

pub returns-then-by-period-clause-value : goal.returns-then-by-period-clause-value
returns-then-by-period-clause-value c = λ p u ok tally. let e = c.entries_at.ensures.value p u ok tally in grind (arith, nat_tests)
