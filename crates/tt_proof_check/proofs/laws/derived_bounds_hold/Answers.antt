use Rattle.tt_proof_check.proofs.Soundness.{tree_sound}
use Rattle.tt_proof_check.proofs.laws.derived_bounds_hold.Goals as goal

pub returns : goal.returns
returns c = λ p b path tree d t ok fits. tree_sound p t ok b path tree d fits
