use Rattle.std.proofs.Common.{◌≡◌, length}
use Rattle.tt_proof_sum.specs.Added.{problem_of}
use Rattle.tt_proof_sum.proofs.Lists.{Sofar}
use Rattle.tt_proof_sum.proofs.several.sum_proofs_on.Given as goal

abbrev pub invariant-loop-source : goal.invariant-loop-source
invariant-loop-source g l = record {
  sofar : Sofar l.instance l.root g.R.Source.remaining g.R.Source.has_failed l.fn.sources l.source-items l.source-index l.sum;
  problem : problem_of l.sum ≡ l.instance;
  long : length l.source-items ≡ length l.fn.sources;
}
