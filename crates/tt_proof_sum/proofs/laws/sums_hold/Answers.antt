use Rattle.std.proofs.Common.{[]}
use Rattle.tt_proof_check.proofs.Soundness.{holds_rootless}
use Rattle.tt_proof_sum.proofs.Together.{sum_holds}
use Rattle.tt_proof_sum.proofs.laws.sums_hold.Goals as goal

pub returns-clause-holds : goal.returns-clause-holds
returns-clause-holds c = λ p files s h. holds_rootless p s (sum_holds p [] files s h)

pub returns-clause-holds_on : goal.returns-clause-holds_on
returns-clause-holds_on c = λ p root files s h. sum_holds p root files s h
