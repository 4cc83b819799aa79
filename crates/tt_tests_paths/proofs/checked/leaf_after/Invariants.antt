use Rattle.tt_leaf_find.specs.Found.{ArePatterns}
use Rattle.tt_tests_paths.proofs.checked.leaf_after.Given as goal

abbrev pub invariant-loop-fact : goal.invariant-loop-fact
invariant-loop-fact g l = ArePatterns (g.P.Path.problem l.path) (g.P.Path.facts l.path)
