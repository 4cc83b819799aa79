use Rattle.tt_report.specs.Names.{shown}
use Rattle.tt_report.specs.Inner.Blocks.{head_of}
use Rattle.tt_report.proofs.Written.{head_put}
use Rattle.tt_report.proofs.blocks.Block.put_head.Goals as goal

pub returns : goal.returns
returns g c =
    head_put g.W.Sink.contents g.W.Sink.has_failed (head_of c.args.instance.now c.args.self) c.as_bytes.result.now
    c.kind_and_name.result.0.now (shown c.kind_and_name.result.1.now)
    c.args.out.now c.put.new.self c.put_next_name.new.out c.put_line_end.new.self
    c.kind_and_name.ensures c.as_bytes.ensures.value c.put.ensures c.put_next_name.ensures c.put_line_end.ensures
