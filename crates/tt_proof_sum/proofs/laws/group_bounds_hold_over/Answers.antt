use Rattle.tt_proof_sum.proofs.Together.{group_over}
use Rattle.tt_proof_sum.proofs.laws.group_bounds_hold_over.Goals as goal

pub returns : goal.returns
returns c = λ p k targets claim there bound t ok fits. group_over p t ok k targets claim there bound
