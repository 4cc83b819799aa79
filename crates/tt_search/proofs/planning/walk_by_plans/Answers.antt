use Rattle.std.proofs.Common.{◌≡◌, ◌+◌, List, refl, sym, subst, ◌∙◌, inl, inr, arith}
use Rattle.tt_instance.specs.Problem.{Problem}
use Rattle.tt_instance.specs.declared.cell.Cell.{Cell}
use Rattle.tt_walk.specs.Improved.{courses_of, LeadsWithin}
use Rattle.tt_walk.specs.Inner.Pairs.{IsBest}
use Rattle.tt_walk.specs.declared.best.Best.{Best}
use Rattle.tt_walk.proofs.Improvements.{leads_here, leads_more, leads_then}
use Rattle.tt_search.proofs.planning.walk_by_plans.Goals as goal

pub loop-plan-init : goal.loop-plan-init
loop-plan-init g c = record {
  problem = refl;
  courses = refl;
  within = omega arith;
  here = leads_here _ _ 0;
  reached = λ same. rw same (leads_here _ _ 0);
  best = λ t courses best. best;
}

pub loop-plan-preserved : goal.loop-plan-preserved
loop-plan-preserved g c =
    let p = c.args.standing.now.occupied.problem in
    let first = c.args.standing.now.occupied.entries in
    let l = c.loop-plan in
    let now = l.standing in
    let planned = c.make_plan-steps.new.occupied in
    let steps = c.make_plan-steps.result in
    let best = c.keep.new.self in
    let same : planned.problem ≡ p = c.make_plan-steps.ensures.problem ∙ l.invariant.problem in
    let courses : courses_of planned.entries ≡ courses_of first = c.make_plan-steps.ensures.courses ∙ l.invariant.courses in
    let on : LeadsWithin p now.occupied.entries steps planned.entries =
    subst (λ (q : Problem). LeadsWithin q now.occupied.entries steps planned.entries) l.invariant.problem
    c.make_plan-steps.ensures.reached in
    let here : LeadsWithin p first (l.made + steps) planned.entries = leads_then l.invariant.here on (omega arith) in
    record {
      problem = same;
      courses = courses;
      within = omega (arith, l.invariant.within, c.make_plan-steps.ensures.within);
      here = here;
      reached = λ start. elim c.keep.ensures.either [
        | inl old ↦ subst (λ (b : Best). LeadsWithin p first (l.made + steps) b.entries.items) (sym old)
            (leads_more (l.made + steps) (l.invariant.reached start) (omega arith))
        | inr new ↦ subst (λ (t : List Cell). LeadsWithin p first (l.made + steps) t) (sym new) here
      ];
      best = λ t begun good. subst (λ (q : Problem). IsBest q t best) same
          (c.keep.ensures.best t (courses ∙ begun)
          (subst (λ (q : Problem). IsBest q t now.best) (sym same) (l.invariant.best t begun good)));
    }

pub returns-then-is_over-clause-reached : goal.returns-then-is_over-clause-reached
returns-then-is_over-clause-reached g c = λ start. leads_more c.args.schedule.draws
    (c.loop-plan.invariant.reached start) c.loop-plan.invariant.within

pub returns-after-loop-plan-clause-reached : goal.returns-after-loop-plan-clause-reached
returns-after-loop-plan-clause-reached g c = λ start. leads_more c.args.schedule.draws
    (c.loop-plan.invariant.reached start) c.loop-plan.invariant.within
