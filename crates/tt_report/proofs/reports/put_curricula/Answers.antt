use Rattle.tt_report.specs.Inner.Blocks.{block_text}
use Rattle.tt_report.specs.declared.blocks.Block.TheVariants as of
use Rattle.tt_report.proofs.Written.{puts_further}
use Rattle.tt_report.proofs.reports.put_curricula.Goals as goal

pub loop-curriculum-preserved : goal.loop-curriculum-preserved
loop-curriculum-preserved g c =
    puts_further g.W.Sink.contents g.W.Sink.has_failed
    (λ q. block_text c.args.instance.now c.args.by_period.now.entries (of.Curriculum q)) c.loop-curriculum.curriculum
    c.args.out.now c.loop-curriculum.out c.put_block.new.out c.loop-curriculum.invariant c.put_block.ensures
