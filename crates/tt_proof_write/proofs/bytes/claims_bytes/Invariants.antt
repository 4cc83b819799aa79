use Rattle.std.proofs.Common.{◌≡◌, ◌+◌, length, take}
use Rattle.std.specs.List.{flat_map}
use Rattle.tt_proof_write.specs.Inner.Bytes.{clipped}
use Rattle.tt_proof_write.specs.Written.{claim_pieces, tail_text}
use Rattle.tt_proof_write.proofs.bytes.claims_bytes.Given as goal

abbrev pub invariant-loop-claim : goal.invariant-loop-claim
invariant-loop-claim l = l.total ≡ clipped (2 + length (flat_map (λ k. tail_text (claim_pieces k)) (take l.claim-index l.claims)))
