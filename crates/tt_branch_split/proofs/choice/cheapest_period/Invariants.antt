use Rattle.std.proofs.Common.{◌<◌}
use Rattle.std.specs.Prelude.{IfSome}
use Rattle.tt_branch_split.proofs.choice.cheapest_period.Given as goal

abbrev pub invariant-loop-day : goal.invariant-loop-day
invariant-loop-day g l = record {
  day : IfSome l.found (λ e. e.day < (g.P.Path.problem l.path).days);
  period : IfSome l.found (λ e. e.period < (g.P.Path.problem l.path).periods);
}
