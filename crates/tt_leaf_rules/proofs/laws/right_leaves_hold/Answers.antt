use Rattle.tt_leaf_rules.proofs.Soundness.{leaf_sound}
use Rattle.tt_leaf_rules.proofs.laws.right_leaves_hold.Goals as goal

pub returns : goal.returns
returns c = λ p path b leaf right t ok fits. leaf_sound p t ok path fits b leaf right
