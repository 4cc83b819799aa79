use Rattle.std.proofs.Common.{◌≡◌, ◌-◌, ◌≤◌, true, is_some}
use Rattle.tt_text.specs.Feeds.{stream_at}
use Rattle.tt_proof_check.specs.FailedReads.{BeforeFailure}
use Rattle.tt_proof_check.specs.Visited.{Visited, Unvisited}
use Rattle.tt_proof_check.proofs.Streaming.{Sofar}
use Rattle.tt_proof_check.proofs.stream.check_tree.Given as goal

abbrev pub invariant-loop-node : goal.invariant-loop-node
invariant-loop-node g l = record {
  sofar : Sofar (g.P.Path.problem l.fn.path) (g.P.Path.facts l.fn.path) l.fn.reader.version l.fn.reader.bound
      (is_some (g.R.Source.remaining l.fn.source))
      (Visited g.L.NodeVisitor.visits 0 l.fn.visitor l.visitor)
      (stream_at l.fn.reader.fed (g.R.Source.remaining l.fn.source)) l.reader (stream_at l.reader.fed (g.R.Source.remaining l.source))
      (g.P.Path.facts l.path);
  failing : BeforeFailure l.fn.reader.fed (g.R.Source.remaining l.fn.source) l.reader.fed (g.R.Source.remaining l.source)
      (λ s t. Sofar (g.P.Path.problem l.fn.path) (g.P.Path.facts l.fn.path) l.fn.reader.version l.fn.reader.bound true Unvisited s
      l.reader t
      (g.P.Path.facts l.path));
  problem : g.P.Path.problem l.path ≡ g.P.Path.problem l.fn.path;
  count : l.count ≡ l.reader.count;
  at_most : l.reader.count ≤ 16777216;
  known : is_some (g.R.Source.remaining l.fn.source) ≡ true → is_some (g.R.Source.remaining l.source) ≡ true;
  failed : g.R.Source.has_failed l.source ≡ g.R.Source.has_failed l.fn.source;
}

abbrev pub decreases-loop-node : goal.decreases-loop-node
decreases-loop-node g l = 16777217 - l.reader.count
