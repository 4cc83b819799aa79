use Rattle.std.proofs.Common.{◌≡◌, ◌≤◌, take, length}
use Rattle.tt_branch.specs.Inner.Links.{IsRooted}
use Rattle.tt_branch.specs.Inner.Written.{IsTaken}
use Rattle.tt_branch.proofs.nodes.write_nodes.Given as goal

abbrev pub invariant-loop-left : goal.invariant-loop-left
invariant-loop-left g l = record {
  same : g.P.Path.problem l.path ≡ g.P.Path.problem l.fn.path;
  within : l.left ≤ length l.tree_nodes;
  rooted : IsRooted l.root (g.P.Path.facts l.path);
  taken : IsTaken (g.P.Path.problem l.fn.path) l.root l.links l.valued l.tree_nodes (take l.left l.tree_nodes) l.nodes.items l.least;
}

abbrev pub decreases-loop-left : goal.decreases-loop-left
decreases-loop-left g l = l.left
