use Rattle.std.proofs.Common.{◌≡◌, ◌+◌, ◌++◌, take, drop, length}
use Rattle.std.specs.Prelude.{reverse}
use Rattle.tt_branch.proofs.moves.shared.Given as goal

abbrev pub invariant-loop-index : goal.invariant-loop-index
invariant-loop-index g l = record {
  sum : l.left + l.index ≡ l.root_depth + length l.facts;
  same : take l.index (g.P.Path.facts l.path) ≡ take l.root_depth (g.P.Path.facts l.path) ++ reverse (drop l.left l.facts);
}
