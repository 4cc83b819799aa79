use Rattle.std.proofs.Common.{◌≡◌, ◌≤◌, length, take}
use Rattle.tt_proof_check.specs.Inner.Pending.{pending}
use Rattle.tt_proof_check.proofs.walk.advance.Given as goal

abbrev pub invariant-loop-path : goal.invariant-loop-path
invariant-loop-path g l = record {
  same_pending : pending l.root (g.P.Path.facts l.path) ≡ pending l.root (g.P.Path.facts l.fn.path);
  same_root : take l.root (g.P.Path.facts l.path) ≡ take l.root (g.P.Path.facts l.fn.path);
  below : l.root ≤ length (g.P.Path.facts l.path);
  same_problem : g.P.Path.problem l.path ≡ g.P.Path.problem l.fn.path;
  within : length (g.P.Path.facts l.path) ≤ 65536;
}

abbrev pub decreases-loop-path : goal.decreases-loop-path
decreases-loop-path g l = length (g.P.Path.facts l.path)
