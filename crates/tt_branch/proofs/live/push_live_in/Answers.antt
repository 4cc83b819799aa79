use Rattle.tt_list_laws.proofs.Growing.{pushed_more, kept_more}
use Rattle.tt_path.specs.Live.{is_live}
use Rattle.tt_branch.specs.Inner.Steps.{cells_on}
use Rattle.tt_branch.proofs.live.push_live_in.Goals as goal

pub loop-day-preserved : goal.loop-day-preserved
loop-day-preserved g c =
    let p = g.P.Path.problem c.args.path.now in
    pushed_more _ _ _ c.in_ok-push_live_on.ensures c.loop-day.invariant
    (kept_more (is_live p (g.P.Path.facts c.args.path.now)) (cells_on p c.args.course c.args.room) c.loop-day.day)
