use Rattle.std.proofs.Common.{[], ◌∷◌, codes, refl}
use Rattle.tt_text.specs.Pieces.{Text}
use Rattle.tt_proof_write.specs.Written.{claim_pieces}
use Rattle.tt_proof_write.proofs.ByteLaws.{rows_counted}
use Rattle.tt_proof_write.proofs.bytes.claims_bytes.Goals as goal

pub returns : goal.returns
returns c = rows_counted claim_pieces c.args.claims.now c.loop-claim.claim-index 2 c.loop-claim.total
    (Text (codes ";") ∷ []) c.loop-claim.invariant c.loop-claim-test.false refl
