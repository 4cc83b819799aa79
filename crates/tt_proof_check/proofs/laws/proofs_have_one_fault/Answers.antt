use Rattle.tt_proof_check.proofs.OneFault.{one_fault}
use Rattle.tt_proof_check.proofs.laws.proofs_have_one_fault.Goals as goal

pub returns : goal.returns
returns c = λ p root s f g h k. one_fault p root s f g h k
