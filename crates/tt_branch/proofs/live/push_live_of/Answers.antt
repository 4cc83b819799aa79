use Rattle.tt_list_laws.proofs.Growing.{pushed_more, kept_more}
use Rattle.tt_path.specs.Live.{is_live}
use Rattle.tt_branch.specs.Inner.Steps.{cells_in}
use Rattle.tt_branch.proofs.live.push_live_of.Goals as goal

pub loop-room-preserved : goal.loop-room-preserved
loop-room-preserved g c =
    let p = g.P.Path.problem c.args.path.now in
    pushed_more _ _ _ c.in_ok-push_live_in.ensures c.loop-room.invariant
    (kept_more (is_live p (g.P.Path.facts c.args.path.now)) (cells_in p c.args.course) c.loop-room.room)
