use Rattle.std.proofs.Common.{◌≡◌, ◌≤◌, take, length}
use Rattle.tt_branch.proofs.moves.pop_to.Given as goal

abbrev pub invariant-loop-path : goal.invariant-loop-path
invariant-loop-path g l = record {
  problem : g.P.Path.problem l.path ≡ g.P.Path.problem l.fn.path;
  kept : g.P.Path.facts l.path ≡ take (length (g.P.Path.facts l.path)) (g.P.Path.facts l.fn.path);
  deep : l.depth ≤ length (g.P.Path.facts l.path);
}

abbrev pub decreases-loop-path : goal.decreases-loop-path
decreases-loop-path g l = length (g.P.Path.facts l.path)
