use Rattle.std.proofs.Common.{None, Some, sym, ◌∙◌}
use Rattle.tt_leaf_rules.proofs.Rightness.{answer_right}
use Rattle.tt_leaf_rules.proofs.checking.holds.Goals as goal

pub returns-in-None-clause-right : goal.returns-in-None-clause-right
returns-in-None-clause-right g c =
    answer_right (g.P.Path.problem c.args.path.now) (g.P.Path.facts c.args.path.now) c.args.bound c.args.leaf.now None
    (sym c.in-None.is ∙ c.fault_of.ensures)

pub returns-in-Some-clause-right : goal.returns-in-Some-clause-right
returns-in-Some-clause-right g c =
    answer_right (g.P.Path.problem c.args.path.now) (g.P.Path.facts c.args.path.now) c.args.bound c.args.leaf.now (Some c.in-Some.fault)
    (sym c.in-Some.is ∙ c.fault_of.ensures)
