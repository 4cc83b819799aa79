use Rattle.std.proofs.Common.{◌≡◌, ◌+◌, ◌≤◌, ◌++◌, take, length}
use Rattle.std.specs.Prelude.{reverse}
use Rattle.tt_branch.proofs.moves.push_first.Given as goal

abbrev pub invariant-loop-left : goal.invariant-loop-left
invariant-loop-left g l = record {
  problem : g.P.Path.problem l.path ≡ g.P.Path.problem l.fn.path;
  facts : g.P.Path.facts l.path ++ reverse (take l.left l.facts) ≡ g.P.Path.facts l.fn.path ++ reverse (take l.count l.facts);
  size : length (g.P.Path.facts l.path) + l.left ≡ length (g.P.Path.facts l.fn.path) + l.count;
  within : l.left ≤ l.count;
}

abbrev pub decreases-loop-left : goal.decreases-loop-left
decreases-loop-left g l = l.left
