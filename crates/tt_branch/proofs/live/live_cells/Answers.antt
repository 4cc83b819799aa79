use Rattle.tt_path.specs.Live.{is_live}
use Rattle.std.proofs.Common.{◌++◌, sym, ap, ◌∙◌}
use Rattle.std.specs.Prelude.{filter}
use Rattle.tt_list_laws.proofs.Growing.{kept_more}
use Rattle.tt_branch.specs.Inner.Steps.{cells_of}
use Rattle.tt_branch.proofs.live.live_cells.Goals as goal

pub loop-course-preserved : goal.loop-course-preserved
loop-course-preserved g c =
    let p = g.P.Path.problem c.args.path.now in
    let q = is_live p (g.P.Path.facts c.args.path.now) in
    c.in_ok-push_live_of.ensures ∙ ap (λ l. l ++ filter q (cells_of p c.loop-course.course)) c.loop-course.invariant
    ∙ sym (kept_more q (cells_of p) c.loop-course.course)
