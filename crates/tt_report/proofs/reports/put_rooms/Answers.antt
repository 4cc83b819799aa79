use Rattle.tt_report.specs.Inner.Blocks.{block_text}
use Rattle.tt_report.specs.declared.blocks.Block.TheVariants as of
use Rattle.tt_report.proofs.Written.{puts_further}
use Rattle.tt_report.proofs.reports.put_rooms.Goals as goal

pub loop-room-preserved : goal.loop-room-preserved
loop-room-preserved g c =
    puts_further g.W.Sink.contents g.W.Sink.has_failed (λ r. block_text c.args.instance.now c.args.by_period.now.entries (of.Room r))
    c.loop-room.room
    c.args.out.now c.loop-room.out c.put_block.new.out c.loop-room.invariant c.put_block.ensures
