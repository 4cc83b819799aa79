use Rattle.std.proofs.Common.{rules}
use Rattle.tt_proof_read.specs.Reading.{end_at}
use Rattle.tt_proof_read.proofs.header.read_end.Goals as goal

-- after the end of the bytes no read fails
pub returns-in-Ok-None-clause-read : goal.returns-in-Ok-None-clause-read
unfolding end_at
returns-in-Ok-None-clause-read g c =
    let ended = rw c.in-Ok-None.field-0-is at c.in-Ok-None.ensures in
    record {
      known = search rules;
      failed = search rules;
      gives = search rules;
      cut_short = λ k rest m. absurd (ended.cut_short (c.in_ok-read_word.ensures.read.known k) rest m);
    }

pub returns-in-Err-clause-read : goal.returns-in-Err-clause-read
unfolding end_at
returns-in-Err-clause-read g c = record { known = search rules; failed = search rules; gives = search rules; cut_short = search rules }
