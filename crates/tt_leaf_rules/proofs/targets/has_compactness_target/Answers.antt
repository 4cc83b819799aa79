use Rattle.tt_leaf_rules.proofs.Apart.{no_compactness}
use Rattle.tt_leaf_rules.proofs.targets.has_compactness_target.Goals as goal

pub returns-in_default : goal.returns-in_default
returns-in_default c = no_compactness c.args.claim.now c.args.curriculum c.in_default.not-Compact
