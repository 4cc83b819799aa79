use Rattle.std.proofs.Common.{sym, ◌∙◌}
use Rattle.tt_stay.proofs.Rearranging.{rearranged_on}
use Rattle.tt_stay.proofs.searching.make_draws.Goals as goal

pub keep-requires : goal.keep-requires
keep-requires g c =
    let drawn = c.try_draw-added.ensures in
    let invariant = c.loop.invariant in
    rearranged_on _ _ _ _ _ (drawn.problem ∙ invariant.problem) (drawn.courses ∙ invariant.courses) invariant.table

pub loop-preserved : goal.loop-preserved
loop-preserved g c =
    let drawn = c.try_draw-added.ensures in
    let invariant = c.loop.invariant in
    let problem = drawn.problem ∙ invariant.problem in
    let courses = drawn.courses ∙ invariant.courses in
    record {
      problem = problem;
      courses = courses;
      table = rearranged_on _ _ _ _ _ (sym problem) (sym courses) c.in_ok-keep.ensures;
    }
