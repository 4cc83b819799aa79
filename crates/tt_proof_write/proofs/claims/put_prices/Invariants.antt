use Rattle.std.proofs.Common.{◌≡◌, ◌++◌, take, All}
use Rattle.std.specs.List.{flat_map}
use Rattle.tt_proof_write.specs.Inner.Numbers.{IsNarrowPair}
use Rattle.tt_proof_write.specs.Written.{priced_pieces, tail_text}
use Rattle.tt_proof_write.proofs.claims.put_prices.Given as goal

abbrev pub invariant-loop-number : goal.invariant-loop-number
invariant-loop-number l = record {
  text : l.out.items ≡ l.initial.out.items ++ flat_map (λ k. tail_text (priced_pieces l.letter k)) (take l.number-index l.prices);
  narrow : All IsNarrowPair (take l.number-index l.prices);
}
