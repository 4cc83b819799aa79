use Rattle.tt_leaf_rules.proofs.Apart.{no_days}
use Rattle.tt_leaf_rules.proofs.targets.has_days_target.Goals as goal

pub returns-in_default : goal.returns-in_default
returns-in_default c = no_days c.args.claim.now c.args.course c.in_default.not-Days c.in_default.not-Stacked
