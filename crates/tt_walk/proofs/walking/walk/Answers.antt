use Rattle.std.proofs.Common.{◌≡◌, ◌+◌, List, refl, sym, subst, ◌∙◌, inl, inr, arith}
use Rattle.tt_instance.specs.Problem.{Problem}
use Rattle.tt_instance.specs.declared.cell.Cell.{Cell}
use Rattle.tt_walk.specs.Improved.{courses_of, LeadsWithin}
use Rattle.tt_walk.specs.Inner.Pairs.{IsBest}
use Rattle.tt_walk.specs.declared.best.Best.{Best}
use Rattle.tt_walk.proofs.Improvements.{leads_here, leads_longer, leads_more}
use Rattle.tt_walk.proofs.walking.walk.Goals as goal

pub loop-made-init : goal.loop-made-init
loop-made-init g c = record {
  problem = refl;
  courses = refl;
  here = leads_here _ _ 0;
  reached = λ same. rw same (leads_here _ _ 0);
  best = λ t courses best. best;
}

pub loop-made-preserved : goal.loop-made-preserved
loop-made-preserved g c =
    let p = c.args.standing.now.occupied.problem in
    let first = c.args.standing.now.occupied.entries in
    let l = c.loop-made in
    let now = l.standing in
    let drawn = c.try_draw.new.occupied in
    let best = c.keep.new.self in
    let same : drawn.problem ≡ p = c.try_draw.ensures.problem ∙ l.invariant.problem in
    let courses : courses_of drawn.entries ≡ courses_of first = c.try_draw.ensures.courses ∙ l.invariant.courses in
    let here : LeadsWithin p first (l.made + 1) drawn.entries =
    subst (λ (q : Problem). LeadsWithin q first (l.made + 1) drawn.entries) l.invariant.problem
    (c.try_draw.ensures.reached first l.made (subst (λ (q : Problem). LeadsWithin q first l.made now.occupied.entries)
    (sym l.invariant.problem) l.invariant.here)) in
    record {
      problem = same;
      courses = courses;
      here = here;
      reached = λ start. elim c.keep.ensures.either [
        | inl old ↦ subst (λ (b : Best). LeadsWithin p first (l.made + 1) b.entries.items) (sym old)
            (leads_longer (l.invariant.reached start))
        | inr new ↦ subst (λ (t : List Cell). LeadsWithin p first (l.made + 1) t) (sym new) here
      ];
      best = λ t begun good. subst (λ (q : Problem). IsBest q t best) same
          (c.keep.ensures.best t (courses ∙ begun)
          (subst (λ (q : Problem). IsBest q t now.best) (sym same) (l.invariant.best t begun good)));
    }

pub returns-then-is_over-clause-reached : goal.returns-then-is_over-clause-reached
returns-then-is_over-clause-reached g c = λ start. leads_more c.args.draws (c.loop-made.invariant.reached start) (omega arith)
