use Rattle.std.proofs.Common.{◌*◌, length, ap, arith}
use Rattle.tt_path.specs.Live.{pinned_room}
use Rattle.tt_leaf_rules.proofs.Blocks.{block_next, blocks_whole}
use Rattle.tt_leaf_rules.proofs.stable.pinned_rooms.Goals as goal

pub loop-block-preserved : goal.loop-block-preserved
loop-block-preserved g c =
    let p = g.P.Path.problem c.args.path.now in
    record {
      counted = block_next (length p.rooms) (pinned_room p (g.P.Path.facts c.args.path.now) c.args.course) c.loop-block.block
          c.pinned_rooms.result c.loop-block.total c.count-total.result c.pinned_rooms.ensures c.loop-block.invariant.counted
          c.count-total.ensures.value;
      at_most = omega (arith, c.loop-block.invariant.at_most, c.count-total.ensures.within);
    }

pub returns-clause-value : goal.returns-clause-value
returns-clause-value g c =
    let p = g.P.Path.problem c.args.path.now in
    blocks_whole (length p.rooms) (pinned_room p (g.P.Path.facts c.args.path.now) c.args.course)
    (c.loop-block.block * 64) c.loop-block.total c.loop-block.invariant.counted
    (omega (arith, c.rooms.ensures.value, ap (λ q. length q.rooms) c.instance.ensures))
