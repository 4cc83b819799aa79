use Rattle.tt_list_laws.proofs.Growing.{pushed_more, kept_one_more}
use Rattle.tt_path.specs.Live.{is_live}
use Rattle.tt_instance.specs.Cells.{cell, slot}
use Rattle.tt_branch.proofs.live.push_live_on.Goals as goal

pub loop-period-preserved : goal.loop-period-preserved
loop-period-preserved g c =
    let p = g.P.Path.problem c.args.path.now in
    pushed_more _ _ _ c.in_ok-push_if_live.ensures c.loop-period.invariant
    (kept_one_more (is_live p (g.P.Path.facts c.args.path.now)) (λ s. cell c.args.course c.args.room (slot c.args.day s))
    c.loop-period.period)
