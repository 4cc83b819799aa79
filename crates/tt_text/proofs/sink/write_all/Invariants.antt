use Rattle.std.proofs.Common.{◌≡◌, length}
use Rattle.tt_text.proofs.TakenParts.{Taken}
use Rattle.tt_text.proofs.sink.write_all.Given as goal

abbrev pub invariant-loop-rest : goal.invariant-loop-rest
invariant-loop-rest g l = record {
  part : Taken (g.W.Sink.contents l.fn.sink) (g.W.Sink.contents l.sink) l.bytes l.rest;
  failed : g.W.Sink.has_failed l.sink ≡ g.W.Sink.has_failed l.fn.sink;
}

abbrev pub decreases-loop-rest : goal.decreases-loop-rest
decreases-loop-rest g l = length l.rest
