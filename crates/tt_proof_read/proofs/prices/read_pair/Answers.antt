use Rattle.std.proofs.lemmas.Result.{err_from_is_err_and}
use Rattle.tt_proof_read.specs.Reading.{pair_at}
use Rattle.tt_proof_read.proofs.Readings.{reads_then, reads_fault, takes_then}
use Rattle.tt_proof_read.proofs.prices.read_pair.Goals as goal

pub returns-in_err-points-clause-read : goal.returns-in_err-points-clause-read
unfolding pair_at
returns-in_err-points-clause-read g c =
    let p = err_from_is_err_and c.from_residual-in_err-points.result c.from_residual-in_err-points.ensures.1 in
    let priced = rw (c.in-Some.is, c.token-2.ensures) at c.in_ok-priced.ensures.read in
    rw (p.1, p.2)
    (reads_then _ _ _ _ _ _ _ _ _ c.in_ok-at.ensures.read
    (takes_then _ _ _ _ _ _ _ priced
    (reads_fault _ _ _ _ _ _ _ c.in_err-points.ensures.read)))
