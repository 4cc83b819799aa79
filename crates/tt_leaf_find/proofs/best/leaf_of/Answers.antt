use Rattle.std.proofs.Common.{rules, sym, subst}
use Rattle.tt_instance.specs.Limits.{IsInstance}
use Rattle.tt_leaf_find.specs.Found.{IsAnswer}
use Rattle.tt_leaf_find.proofs.Answering.{either_answer}
use Rattle.tt_leaf_find.proofs.best.leaf_of.Goals as goal

pub returns-clause-leaf : goal.returns-clause-leaf
returns-clause-leaf g c = search rules

pub returns-clause-answer : goal.returns-clause-answer
returns-clause-answer g c =
    let p = g.P.Path.problem c.args.path.now in
    subst (IsAnswer p) (sym (returns-clause-leaf g c))
    (either_answer p (g.P.Path.facts c.args.path.now) (subst IsInstance c.instance.ensures c.days.ensures.instance) c.args.stacked)
