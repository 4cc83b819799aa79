use Rattle.tt_proof_sum.proofs.Over.{tree_over_all, over_all}
use Rattle.tt_proof_sum.proofs.laws.bounds_hold_over_all.Goals as goal

pub returns-clause-within : goal.returns-clause-within
returns-clause-within c = λ p t ok. over_all p t ok

pub returns-clause-holds : goal.returns-clause-holds
returns-clause-holds c = λ p b path tree d t ok fits. tree_over_all p t ok b path tree d fits
