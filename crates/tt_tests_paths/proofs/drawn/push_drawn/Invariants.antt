use Rattle.std.proofs.Common.{◌≡◌}
use Rattle.tt_leaf_find.specs.Found.{ArePatterns}
use Rattle.tt_tests_paths.proofs.drawn.push_drawn.Given as goal

abbrev pub invariant-loop-number : goal.invariant-loop-number
invariant-loop-number g l = record {
  patterns : ArePatterns (g.P.Path.problem l.path) (g.P.Path.facts l.path);
  same : g.P.Path.problem l.path ≡ g.P.Path.problem l.fn.path;
}
