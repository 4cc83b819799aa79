use Rattle.std.proofs.Common.{◌≡◌, ℕ, ◌+◌, length, take}
use Rattle.std.specs.List.{flat_map}
use Rattle.tt_proof_write.specs.Inner.Bytes.{clipped}
use Rattle.tt_proof_write.specs.Written.{priced_pieces, tail_text}
use Rattle.tt_proof_write.proofs.bytes.prices_bytes.Given as goal

abbrev pub invariant-loop-number : goal.invariant-loop-number
invariant-loop-number l = (letter : ℕ)
    → l.total ≡ clipped (0 + length (flat_map (λ k. tail_text (priced_pieces letter k)) (take l.number-index l.prices)))
