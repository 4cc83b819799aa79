use Rattle.std.proofs.Common.{◌<◌, length}
use Rattle.std.specs.Prelude.{IfSome}
use Rattle.tt_branch_split.proofs.choice.choose_curriculum.Given as goal

abbrev pub invariant-loop-curriculum : goal.invariant-loop-curriculum
invariant-loop-curriculum g l = IfSome l.found (λ q. q < length (g.P.Path.problem l.path).curricula)
