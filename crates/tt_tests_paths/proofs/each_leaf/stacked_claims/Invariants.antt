use Rattle.std.specs.Prelude.{All}
use Rattle.tt_leaf.specs.Ranges.{IsClaimOf}
use Rattle.tt_tests_paths.proofs.each_leaf.stacked_claims.Given as goal

abbrev pub invariant-loop-course : goal.invariant-loop-course
invariant-loop-course g l = All (IsClaimOf (g.P.Path.problem l.path)) l.claims.items
