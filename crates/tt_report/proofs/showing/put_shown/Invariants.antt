use Rattle.std.specs.Str.Chunks.{utf8_chunks_rest}
use Rattle.tt_report.proofs.Shown.{NamePut}
use Rattle.tt_report.proofs.showing.put_shown.Given as goal

abbrev pub invariant-loop-chunk : goal.invariant-loop-chunk
invariant-loop-chunk g l = NamePut g.W.Sink.contents g.W.Sink.has_failed l.initial.out l.out l.name (utf8_chunks_rest l.chunk-iterator)
