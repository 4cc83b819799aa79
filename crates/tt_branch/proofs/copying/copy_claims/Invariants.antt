use Rattle.std.proofs.Common.{◌≡◌, take}
use Rattle.tt_branch.proofs.copying.copy_claims.Given as goal

abbrev pub invariant-loop-claim : goal.invariant-loop-claim
invariant-loop-claim l = l.copy.items ≡ take l.claim-index l.claims
