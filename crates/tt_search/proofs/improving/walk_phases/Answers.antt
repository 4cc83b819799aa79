use Rattle.std.proofs.Common.{sym, subst, ◌∙◌, refl, arith}
use Rattle.tt_walk.specs.Improved.{LeadsWithin}
use Rattle.tt_walk.specs.Inner.Pairs.{IsBest}
use Rattle.tt_walk.proofs.Improvements.{leads_here, leads_then}
use Rattle.tt_search.proofs.improving.walk_phases.Goals as goal

pub loop-phase-init : goal.loop-phase-init
loop-phase-init g c = record {
  problem = refl;
  some = c.requires.positive;
  here = c.requires.here;
  best = λ t best. best;
  within = omega arith;
  reached = leads_here _ _ 0;
}

pub loop-phase-preserved : goal.loop-phase-preserved
loop-phase-preserved g c =
    let l = c.loop-phase in
    let phase = c.walk_phase in
    let same = l.invariant.problem in
    record {
      problem = phase.ensures.problem ∙ same;
      some = phase.ensures.positive;
      here = phase.ensures.here;
      best = λ t best. subst (λ p. IsBest p t phase.new.standing.best) same
          (phase.ensures.best t (subst (λ p. IsBest p t l.standing.best) (sym same) (l.invariant.best t best)));
      within = c.draws-next.ensures;
      reached = leads_then l.invariant.reached
          (subst (λ p. LeadsWithin p l.standing.occupied.entries c.draws-next.result phase.new.standing.occupied.entries) same
          phase.ensures.reached)
          (omega arith);
    }
