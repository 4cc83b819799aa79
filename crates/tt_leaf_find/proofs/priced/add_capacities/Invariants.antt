use Rattle.std.specs.Prelude.{All}
use Rattle.tt_leaf_find.specs.Found.{IsFitClaim}
use Rattle.tt_leaf_find.proofs.priced.add_capacities.Given as goal

abbrev pub invariant-loop-course : goal.invariant-loop-course
invariant-loop-course g l = All (IsFitClaim (g.P.Path.problem l.path)) l.claims.items
