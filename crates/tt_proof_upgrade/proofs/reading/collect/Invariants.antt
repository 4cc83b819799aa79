use Rattle.std.proofs.Common.{◌≡◌, ◌-◌, ◌≤◌, true, is_some}
use Rattle.tt_text.specs.Feeds.{stream_at}
use Rattle.tt_proof_check.specs.FailedReads.{BeforeFailure}
use Rattle.tt_proof_upgrade.proofs.Collected.{Collected}
use Rattle.tt_proof_upgrade.proofs.reading.collect.Given as goal

abbrev pub invariant-loop-nodes : goal.invariant-loop-nodes
invariant-loop-nodes g l = record {
  sofar : Collected l.fn.reader.sizes l.fn.reader.version (is_some (g.R.Source.remaining l.fn.source))
      (stream_at l.fn.reader.fed (g.R.Source.remaining l.fn.source)) l.reader (stream_at l.reader.fed (g.R.Source.remaining l.source))
      l.nodes.items;
  failing : BeforeFailure l.fn.reader.fed (g.R.Source.remaining l.fn.source) l.reader.fed (g.R.Source.remaining l.source)
      (λ s t. Collected l.fn.reader.sizes l.fn.reader.version true s l.reader t l.nodes.items);
  at_most : l.reader.count ≤ 16777216;
  known : is_some (g.R.Source.remaining l.fn.source) ≡ true → is_some (g.R.Source.remaining l.source) ≡ true;
  failed : g.R.Source.has_failed l.source ≡ g.R.Source.has_failed l.fn.source;
}

abbrev pub decreases-loop-nodes : goal.decreases-loop-nodes
decreases-loop-nodes g l = 16777217 - l.reader.count
