use Rattle.std.proofs.Common.{sym, refl, ◌∙◌, subst}
use Rattle.tt_occupancy.specs.Filled.{Filled}
use Rattle.tt_stay.specs.Rearranged.{IsRearranged}
use Rattle.tt_stay.proofs.Rearranging.{rearranged_self, rearranged_on}
use Rattle.tt_stay.proofs.searching.search_near.Goals as goal

pub loop-made-init : goal.loop-made-init
loop-made-init g c = record {
  problem = refl;
  courses = refl;
  table = subst (λ (o : Filled). IsRearranged o.problem o.entries c.in_ok-copy.field-0) (sym c.in-Ok.ensures.ok)
      (rearranged_self _ _ _ c.in_ok-copy.ensures c.requires);
}

pub make_draws-requires : goal.make_draws-requires
make_draws-requires g c =
    let invariant = c.loop-made.invariant in
    rearranged_on _ _ _ _ _ invariant.problem invariant.courses invariant.table

pub loop-made-preserved : goal.loop-made-preserved
loop-made-preserved g c =
    let made = c.make_draws.ensures in
    let invariant = c.loop-made.invariant in
    let problem = made.problem ∙ invariant.problem in
    let courses = made.courses ∙ invariant.courses in
    record {
      problem = problem;
      courses = courses;
      table = rearranged_on _ _ _ _ _ (sym invariant.problem) (sym invariant.courses) c.in_ok-make_draws.ensures.table;
    }
