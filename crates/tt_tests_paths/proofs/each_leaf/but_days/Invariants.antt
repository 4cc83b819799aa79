use Rattle.std.specs.Prelude.{All}
use Rattle.tt_leaf.specs.Ranges.{IsClaimOf}
use Rattle.tt_tests_paths.proofs.each_leaf.but_days.Given as goal

abbrev pub invariant-loop-claim : goal.invariant-loop-claim
invariant-loop-claim g l = All (IsClaimOf (g.P.Path.problem l.path)) l.kept.items
