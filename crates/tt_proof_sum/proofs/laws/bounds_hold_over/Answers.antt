use Rattle.tt_proof_sum.proofs.Over.{tree_over}
use Rattle.tt_proof_sum.proofs.laws.bounds_hold_over.Goals as goal

pub returns : goal.returns
returns c = λ p b path tree targets there d t ok fits. tree_over p t ok b path tree targets there d fits
