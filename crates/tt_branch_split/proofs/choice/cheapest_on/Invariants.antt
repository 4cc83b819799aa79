use Rattle.std.proofs.Common.{◌<◌}
use Rattle.std.specs.Prelude.{IfSome}
use Rattle.tt_branch_split.proofs.choice.cheapest_on.Given as goal

abbrev pub invariant-loop-period : goal.invariant-loop-period
invariant-loop-period g l = record {
  day : IfSome l.found (λ e. e.day < (g.P.Path.problem l.path).days);
  period : IfSome l.found (λ e. e.period < (g.P.Path.problem l.path).periods);
}
