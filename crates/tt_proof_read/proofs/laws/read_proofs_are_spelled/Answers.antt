use Rattle.tt_proof_read.proofs.ProofLaws.{reads_spelled, spelled_reads}
use Rattle.tt_proof_read.proofs.Small.{are_small}
use Rattle.tt_proof_read.proofs.laws.read_proofs_are_spelled.Goals as goal

pub returns-clause-read : goal.returns-clause-read
returns-clause-read c = λ p sizes are bytes version b tree short reads. reads_spelled p sizes are bytes version b tree short reads

pub returns-clause-spelled : goal.returns-clause-spelled
returns-clause-spelled c = λ p sizes is are bytes version b tree spelled. spelled_reads p sizes are
    (are_small p sizes is are) bytes version b tree spelled
