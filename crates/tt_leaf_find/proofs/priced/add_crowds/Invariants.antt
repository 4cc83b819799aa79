use Rattle.std.specs.Prelude.{All}
use Rattle.tt_leaf_find.specs.Found.{IsFitClaim}
use Rattle.tt_leaf_find.proofs.priced.add_crowds.Given as goal

abbrev pub invariant-loop-crowd : goal.invariant-loop-crowd
invariant-loop-crowd g l = All (IsFitClaim (g.P.Path.problem l.path)) l.claims.items
