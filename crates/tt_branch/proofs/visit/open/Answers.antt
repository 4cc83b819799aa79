use Rattle.std.proofs.Common.{rules, subst, Option}
use Rattle.std.specs.Prelude.{IfSome, IsNone}
use Rattle.tt_path.specs.declared.facts.Pattern.{Pattern}
use Rattle.tt_branch_split.specs.Choice.{IsNewSplit}
use Rattle.tt_branch.proofs.Opening.{splits_on}
use Rattle.tt_branch.proofs.visit.open.Goals as goal

pub returns-in-Some-2-clause-known : goal.returns-in-Some-2-clause-known
returns-in-Some-2-clause-known g c =
    let p = g.P.Path.problem c.args.path.now in
    let facts = g.P.Path.facts c.args.path.now in
    let none : IsNone c.in_ok-leaf.field-0 = search rules in
    splits_on p facts c.in-Some-2.pattern c.bound_of-bound.result
    (subst (λ (o : Option Pattern). IfSome o (IsNewSplit p facts)) c.in-Some-2.is c.in_ok-pattern.ensures.split)
    (c.in_ok-leaf.ensures.none none)
