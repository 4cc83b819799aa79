use Rattle.std.proofs.Common.{◌≡◌, ◌++◌, take, All}
use Rattle.std.specs.List.{flat_map}
use Rattle.tt_proof_write.specs.Inner.Numbers.{IsNarrowClaim}
use Rattle.tt_proof_write.specs.Written.{claim_pieces, tail_text}
use Rattle.tt_proof_write.proofs.claims.put_claims.Given as goal

abbrev pub invariant-loop-claim : goal.invariant-loop-claim
invariant-loop-claim l = record {
  text : l.out.items ≡ l.initial.out.items ++ flat_map (λ k. tail_text (claim_pieces k)) (take l.claim-index l.claims);
  narrow : All IsNarrowClaim (take l.claim-index l.claims);
}
