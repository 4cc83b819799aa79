use Rattle.std.proofs.Common.{◌≡◌, ◌++◌, map, length, sym, subst, ap, arith}
use Rattle.std.proofs.lemmas.List.{append-nil}
use Rattle.tt_list_laws.specs.Words.{range_below}
use Rattle.tt_leaf_find.specs.Best.{worth}
use Rattle.tt_leaf.specs.declared.leaf.Claim.TheVariants.{Compact}
use Rattle.tt_list_laws.proofs.Growing.{pushed_more}
use Rattle.tt_leaf_find.proofs.Steps.{worth_more}
use Rattle.tt_leaf_find.proofs.best.push_compact.Goals as goal

pub loop-curriculum-preserved : goal.loop-curriculum-preserved
loop-curriculum-preserved g c =
    pushed_more _ _ _ c.in_ok-push_if_worth.ensures.worth c.loop-curriculum.invariant
    (worth_more (g.P.Path.problem c.args.path.now) (g.P.Path.facts c.args.path.now) (λ n. Compact n) c.loop-curriculum.curriculum)

pub loop-curriculum-init : goal.loop-curriculum-init
loop-curriculum-init g c = sym (append-nil c.args.claims.now.items)

pub returns : goal.returns
returns g c =
    let p = g.P.Path.problem c.args.path.now in
    let facts = g.P.Path.facts c.args.path.now in
    let all : c.loop-curriculum.curriculum ≡ length p.curricula =
    omega (arith, c.curricula-curriculum-end.ensures.value, ap (λ z. length z.curricula) c.instance.ensures) in
    subst (λ n. c.loop-curriculum.claims.items ≡ c.args.claims.now.items ++ worth p facts (map Compact (range_below n))) all
    c.loop-curriculum.invariant
