use Rattle.std.proofs.Common.{◌≡◌, [], ◌∷◌, ◌++◌, map, length, sym, subst, ap, ◌∙◌, arith}
use Rattle.std.proofs.lemmas.List.{append-nil}
use Rattle.tt_list_laws.specs.Words.{range_below}
use Rattle.tt_leaf_find.specs.Best.{worth, days_of}
use Rattle.tt_list_laws.proofs.Growing.{pushed_more}
use Rattle.tt_leaf_find.proofs.Steps.{worth_more}
use Rattle.tt_leaf_find.proofs.best.push_days.Goals as goal

pub loop-course-preserved : goal.loop-course-preserved
loop-course-preserved g c =
    let p = g.P.Path.problem c.args.path.now in
    let facts = g.P.Path.facts c.args.path.now in
    let pushed = c.in_ok-push_if_worth.ensures.worth
    ∙ ap (λ k. c.loop-course.claims.items ++ worth p facts (k ∷ [])) c.days_claim.ensures.value in
    pushed_more _ _ _ pushed c.loop-course.invariant (worth_more p facts (days_of c.args.stacked) c.loop-course.course)

pub loop-course-init : goal.loop-course-init
loop-course-init g c = sym (append-nil c.args.claims.now.items)

pub returns : goal.returns
returns g c =
    let p = g.P.Path.problem c.args.path.now in
    let facts = g.P.Path.facts c.args.path.now in
    let all : c.loop-course.course ≡ length p.courses =
    omega (arith, c.courses-course-end.ensures.value, ap (λ z. length z.courses) c.instance.ensures) in
    subst (λ n. c.loop-course.claims.items ≡ c.args.claims.now.items ++ worth p facts (map (days_of c.args.stacked) (range_below n)))
    all c.loop-course.invariant
