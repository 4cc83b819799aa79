use Rattle.std.proofs.Common.{◌≡◌, take}
use Rattle.tt_proof_check.proofs.root.restart.Given as goal

abbrev pub invariant-loop-fact : goal.invariant-loop-fact
invariant-loop-fact g l = record {
  facts : g.P.Path.facts l.path ≡ take l.fact-index l.root;
  problem : g.P.Path.problem l.path ≡ g.P.Path.problem l.fn.path;
}
