use Rattle.std.proofs.Common.{All}
use Rattle.tt_instance.specs.Cells.{InRange}
use Rattle.tt_report.proofs.Written.{EntriesPut}
use Rattle.tt_report.proofs.reports.put_entries.Given as goal

abbrev pub invariant-loop-entry : goal.invariant-loop-entry
invariant-loop-entry g l = record {
  text : EntriesPut g.W.Sink.contents g.W.Sink.has_failed l.instance l.block l.fn.out l.out l.fn.entries l.entry-iterator;
  left : All (InRange l.instance) l.entry-iterator;
}
