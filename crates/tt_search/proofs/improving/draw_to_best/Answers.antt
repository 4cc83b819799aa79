use Rattle.std.proofs.Common.{subst, arith}
use Rattle.std.proofs.lemmas.Result.{IfOk-weaker}
use Rattle.tt_walk.specs.Improved.{IsNoWorse, LeadsWithin}
use Rattle.tt_walk.proofs.Improvements.{IsNoWorse-trans, leads_then}
use Rattle.tt_search.proofs.improving.draw_to_best.Goals as goal

pub returns-clause-best : goal.returns-clause-best
returns-clause-best g c =
    let start = c.args.occupied in
    let annealed = c.in_ok-occupied in
    let middle = annealed.occupied in
    IfOk-weaker c.walk_to_best-2.result (λ o. IsNoWorse middle.problem middle.entries o.entries)
    (λ o. IsNoWorse start.problem start.entries o.entries)
    (λ o walked.
    IsNoWorse-trans annealed.ensures.best (subst (λ p. IsNoWorse p middle.entries o.entries) annealed.ensures.problem walked))
    c.walk_to_best-2.ensures.best

pub returns-clause-reached : goal.returns-clause-reached
returns-clause-reached g c =
    let start = c.args.occupied in
    let annealed = c.in_ok-occupied in
    let middle = annealed.occupied in
    let left = c.draws_left-left.result in
    IfOk-weaker c.walk_to_best-2.result (λ o. LeadsWithin middle.problem middle.entries left o.entries)
    (λ o. LeadsWithin start.problem start.entries c.args.draws o.entries)
    (λ o walked.
    leads_then annealed.ensures.reached
    (subst (λ p. LeadsWithin p middle.entries left o.entries) annealed.ensures.problem walked)
    (omega (arith, c.draws_left-left.ensures)))
    c.walk_to_best-2.ensures.reached
