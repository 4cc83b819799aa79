use Rattle.std.proofs.lemmas.Result.{err_from_is_err_and}
use Rattle.tt_proof_read.specs.Reading.{header_at}
use Rattle.tt_proof_read.proofs.Readings.{reads_value, reads_then, reads_fault}
use Rattle.tt_proof_read.proofs.header.read_header.Goals as goal

pub returns-in_err-read_word-2 : goal.returns-in_err-read_word-2
unfolding header_at
returns-in_err-read_word-2 g c =
    let p = err_from_is_err_and c.from_residual-in_err-read_word-2.result c.from_residual-in_err-read_word-2.ensures.1 in
    record {
      read = rw (p.1, p.2)
          (reads_then _ _ _ _ _ _ _ _ _ c.in_ok-read_word.ensures.read
          (reads_then _ _ _ _ _ _ _ _ _ c.in_ok-version.ensures.read
          (reads_fault _ _ _ _ _ _ _ c.in_err-read_word-2.ensures.read)));
    }

pub returns-in_err-bound : goal.returns-in_err-bound
unfolding header_at
returns-in_err-bound g c =
    let p = err_from_is_err_and c.from_residual-in_err-bound.result c.from_residual-in_err-bound.ensures.1 in
    record {
      read = rw (p.1, p.2)
          (reads_then _ _ _ _ _ _ _ _ _ c.in_ok-read_word.ensures.read
          (reads_then _ _ _ _ _ _ _ _ _ c.in_ok-version.ensures.read
          (reads_then _ _ _ _ _ _ _ _ _ c.in_ok-read_word-2.ensures.read
          (reads_fault _ _ _ _ _ _ _ c.in_err-bound.ensures.read))));
    }

pub returns : goal.returns
unfolding header_at
returns g c = record {
  read =
      reads_then _ _ _ _ _ _ _ _ _ c.in_ok-read_word.ensures.read
      (reads_then _ _ _ _ _ _ _ _ _ c.in_ok-version.ensures.read
      (reads_then _ _ _ _ _ _ _ _ _ c.in_ok-read_word-2.ensures.read
      (reads_then _ _ _ _ _ _ _ _ _ c.in_ok-bound.ensures.read
      (reads_value _ _ _))));
}
