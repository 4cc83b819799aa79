use Rattle.std.proofs.Common.{◌≡◌, length}
use Rattle.tt_proof_check.proofs.root.clear.Given as goal

abbrev pub invariant-loop-path : goal.invariant-loop-path
invariant-loop-path g l = g.P.Path.problem l.path ≡ g.P.Path.problem l.fn.path

abbrev pub decreases-loop-path : goal.decreases-loop-path
decreases-loop-path g l = length (g.P.Path.facts l.path)
