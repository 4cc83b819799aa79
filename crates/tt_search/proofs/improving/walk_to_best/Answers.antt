use Rattle.std.proofs.Common.{subst, sym, arith}
use Rattle.tt_occupancy.specs.Filled.{Filled}
use Rattle.tt_walk.specs.Improved.{IsNoWorse, LeadsWithin}
use Rattle.tt_walk.specs.Inner.Pairs.{IsBest}
use Rattle.tt_walk.proofs.Improvements.{leads_here, leads_then}
use Rattle.tt_search.proofs.improving.walk_to_best.Goals as goal

pub returns-then-is_empty-clause-reached : goal.returns-then-is_empty-clause-reached
returns-then-is_empty-clause-reached g c = leads_here _ _ _

pub go_plans-requires-clause-best : goal.go_plans-requires-clause-best
go_plans-requires-clause-best g c =
    let begun = c.in_ok-standing in
    let first = begun.standing.occupied.entries in
    let phases = c.walk_phases-made in (
      first,
      subst (λ p. IsBest p first phases.new.standing.best) (sym phases.ensures.problem) (phases.ensures.best first begun.ensures.best),
    )

pub returns-clause-best : goal.returns-clause-best
returns-clause-best g c =
    let begun = c.in_ok-standing in
    let first = begun.standing.occupied in
    let phases = c.walk_phases-made in
    let plans = c.go_plans in
    let same = phases.ensures.problem in
    let walked = subst (λ p. IsBest p first.entries phases.new.standing.best) (sym same)
    (phases.ensures.best first.entries begun.ensures.best) in
    let planned = subst (λ p. IsBest p first.entries plans.new.standing.best) same (plans.ensures.best first.entries walked) in
    subst (λ (o : Filled). IsNoWorse o.problem o.entries plans.new.standing.occupied.entries) begun.ensures.occupied
    (subst (IsNoWorse first.problem first.entries) plans.ensures.here planned.found)

pub returns-clause-reached : goal.returns-clause-reached
returns-clause-reached g c =
    let phases = c.walk_phases-made in
    let plans = c.go_plans in
    let last = plans.new.standing.occupied.entries in
    let planned = subst (λ p. LeadsWithin p phases.new.standing.occupied.entries c.new-schedule.result.draws last)
    phases.ensures.problem plans.ensures.reached in
    subst (λ (o : Filled). LeadsWithin o.problem o.entries c.args.draws last) c.in_ok-standing.ensures.occupied
    (leads_then phases.ensures.reached planned (omega (arith, phases.ensures.within, c.new-schedule.ensures)))
