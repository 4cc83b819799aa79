use Rattle.tt_leaf_rules.proofs.Apart.{no_stability}
use Rattle.tt_leaf_rules.proofs.targets.has_stability_target.Goals as goal

pub returns-in_default : goal.returns-in_default
returns-in_default c = no_stability c.args.claim.now c.args.course c.in_default.not-Stable
