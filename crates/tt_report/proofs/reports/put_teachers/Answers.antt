use Rattle.tt_report.specs.Inner.Blocks.{block_text}
use Rattle.tt_report.specs.declared.blocks.Block.TheVariants as of
use Rattle.tt_report.proofs.Written.{puts_further}
use Rattle.tt_report.proofs.reports.put_teachers.Goals as goal

pub loop-teacher-preserved : goal.loop-teacher-preserved
loop-teacher-preserved g c =
    puts_further g.W.Sink.contents g.W.Sink.has_failed (λ k. block_text c.args.instance.now c.args.by_period.now.entries (of.Teacher k))
    c.loop-teacher.teacher
    c.args.out.now c.loop-teacher.out c.put_block.new.out c.loop-teacher.invariant c.put_block.ensures
