use Rattle.std.proofs.lemmas.Result.{err_from_is_err_and}
use Rattle.tt_proof_read.specs.Reading.{claim_at}
use Rattle.tt_proof_read.proofs.Readings.{reads_then, reads_fault, takes_then}
use Rattle.tt_proof_read.proofs.claims.read_claim.Goals as goal

pub returns-in_err-claim-clause-read : goal.returns-in_err-claim-clause-read
unfolding claim_at
returns-in_err-claim-clause-read g c =
    let p = err_from_is_err_and c.from_residual-in_err-claim.result c.from_residual-in_err-claim.ensures.1 in
    let word = rw (c.in-Some.is, c.token-2.ensures) at c.in_ok-word.ensures.read in
    rw (p.1, p.2)
    (reads_then _ _ _ _ _ _ _ _ _ c.in_ok-at.ensures.read
    (takes_then _ _ _ _ _ _ _ word
    (reads_fault _ _ _ _ _ _ _ c.in_err-claim.ensures.read)))
