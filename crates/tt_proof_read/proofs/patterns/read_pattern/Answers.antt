use Rattle.std.proofs.lemmas.Result.{err_from_is_err_and}
use Rattle.tt_proof_read.specs.Reading.{pattern_at}
use Rattle.tt_proof_read.proofs.Readings.{reads_value, reads_then, reads_fault}
use Rattle.tt_proof_read.proofs.patterns.read_pattern.Goals as goal

pub returns-in_err-day-clause-read : goal.returns-in_err-day-clause-read
unfolding pattern_at
returns-in_err-day-clause-read g c =
    let p = err_from_is_err_and c.from_residual-in_err-day.result c.from_residual-in_err-day.ensures.1 in
    rw (p.1, p.2)
    (reads_then _ _ _ _ _ _ _ _ _ c.in_ok-who.ensures.read
    (reads_then _ _ _ _ _ _ _ _ _ c.in_ok-room.ensures.read
    (reads_fault _ _ _ _ _ _ _ c.in_err-day.ensures.read)))

pub returns-in_err-period-clause-read : goal.returns-in_err-period-clause-read
unfolding pattern_at
returns-in_err-period-clause-read g c =
    let p = err_from_is_err_and c.from_residual-in_err-period.result c.from_residual-in_err-period.ensures.1 in
    rw (p.1, p.2)
    (reads_then _ _ _ _ _ _ _ _ _ c.in_ok-who.ensures.read
    (reads_then _ _ _ _ _ _ _ _ _ c.in_ok-room.ensures.read
    (reads_then _ _ _ _ _ _ _ _ _ c.in_ok-day.ensures.read
    (reads_fault _ _ _ _ _ _ _ c.in_err-period.ensures.read))))

pub returns-clause-read : goal.returns-clause-read
unfolding pattern_at
returns-clause-read g c =
    reads_then _ _ _ _ _ _ _ _ _ c.in_ok-who.ensures.read
    (reads_then _ _ _ _ _ _ _ _ _ c.in_ok-room.ensures.read
    (reads_then _ _ _ _ _ _ _ _ _ c.in_ok-day.ensures.read
    (reads_then _ _ _ _ _ _ _ _ _ c.in_ok-period.ensures.read
    (reads_value _ _ _))))
