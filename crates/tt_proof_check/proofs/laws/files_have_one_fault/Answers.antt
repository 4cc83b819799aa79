use Rattle.tt_proof_check.proofs.OneFault.{one_refusal}
use Rattle.tt_proof_check.proofs.laws.files_have_one_fault.Goals as goal

pub returns : goal.returns
returns c = λ i s bytes f g h k. one_refusal i s bytes f g h k
