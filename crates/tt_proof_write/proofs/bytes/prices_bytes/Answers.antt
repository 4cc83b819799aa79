use Rattle.std.proofs.Common.{List, [], length, refl, ap, ◌∙◌}
use Rattle.std.proofs.lemmas.List.{append-nil}
use Rattle.tt_text.specs.Pieces.{Piece}
use Rattle.tt_proof_write.specs.Inner.Bytes.{clipped}
use Rattle.tt_proof_write.specs.Written.{priced_pieces, tail_text}
use Rattle.tt_proof_write.proofs.ByteLaws.{rows_counted}
use Rattle.tt_proof_write.proofs.bytes.prices_bytes.Goals as goal

pub returns : goal.returns
returns c = λ letter.
    rows_counted (priced_pieces letter) c.args.prices.now c.loop-number.number-index 0 c.loop-number.total []
    (c.loop-number.invariant letter) c.loop-number-test.false refl
    ∙ ap (λ (ps : List Piece). clipped (length (tail_text ps))) (append-nil _)
