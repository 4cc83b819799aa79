use Rattle.std.proofs.Common.{◌*◌, length, ap, arith}
use Rattle.tt_instance.specs.Cells.{slot}
use Rattle.tt_leaf_rules.specs.Inner.Nested.{live_in}
use Rattle.tt_leaf_rules.proofs.Blocks.{block_next, blocks_whole}
use Rattle.tt_leaf_rules.proofs.groups.open_in_period.Goals as goal

pub loop-block-preserved : goal.loop-block-preserved
loop-block-preserved g c =
    let a = c.args in
    let p = g.P.Path.problem a.path.now in
    record {
      counted = block_next (length p.rooms) (λ r. live_in p (g.P.Path.facts a.path.now) a.courses.now r (slot a.day a.period))
          c.loop-block.block c.open_block.result c.loop-block.total c.count-total.result c.open_block.ensures
          c.loop-block.invariant.counted c.count-total.ensures.value;
      at_most = omega (arith, c.loop-block.invariant.at_most, c.count-total.ensures.within);
    }

pub returns-clause-value : goal.returns-clause-value
returns-clause-value g c =
    let a = c.args in
    let p = g.P.Path.problem a.path.now in
    blocks_whole (length p.rooms) (λ r. live_in p (g.P.Path.facts a.path.now) a.courses.now r (slot a.day a.period))
    (c.loop-block.block * 64) c.loop-block.total c.loop-block.invariant.counted
    (omega (arith, c.rooms.ensures.value, ap (λ q. length q.rooms) c.instance.ensures))
