use Rattle.std.proofs.Common.{refl, sym, subst, ◌∙◌}
use Rattle.tt_instance.specs.Problem.{Problem}
use Rattle.tt_table.specs.Table.{IsTimetable}
use Rattle.tt_walk.specs.Improved.{LeadsWithin}
use Rattle.tt_walk.specs.Inner.Pairs.{IsBest}
use Rattle.tt_walk.proofs.Improvements.{leads_here}
use Rattle.tt_search.proofs.annealing.walk_by_annealing.Goals as goal

pub loop-init : goal.loop-init
loop-init g c = record {
  problem = refl;
  courses = refl;
  reached = λ same. rw same (leads_here _ _ _);
  best = λ t courses best. best;
}

pub advance-requires-clause-in_range : goal.advance-requires-clause-in_range
advance-requires-clause-in_range g c =
    subst (λ (p : Problem). IsTimetable p c.args.first.now) (sym c.loop.invariant.problem) c.requires.in_range

pub loop-preserved : goal.loop-preserved
loop-preserved g c =
    let l = c.loop in
    let first = c.args.first.now in
    let draws = c.args.draws in
    let next = c.advance.new.standing in
    let same = l.invariant.problem in
    record {
      problem = c.advance.ensures.problem ∙ same;
      courses = c.advance.ensures.courses ∙ l.invariant.courses;
      reached = λ start. subst (λ (p : Problem). LeadsWithin p first draws next.best.entries.items) same
          (c.advance.ensures.reached
          (subst (λ (p : Problem). LeadsWithin p first draws l.standing.best.entries.items) (sym same) (l.invariant.reached start)));
      best = λ t begun good. subst (λ (p : Problem). IsBest p t next.best) same
          (c.advance.ensures.best t (l.invariant.courses ∙ begun)
          (subst (λ (p : Problem). IsBest p t l.standing.best) (sym same) (l.invariant.best t begun good)));
    }
