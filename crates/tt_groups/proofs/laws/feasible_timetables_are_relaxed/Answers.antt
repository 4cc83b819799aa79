use Rattle.tt_groups.proofs.Seen.{feasible_relaxed, group_bound_holds}
use Rattle.tt_groups.proofs.laws.feasible_timetables_are_relaxed.Goals as goal

pub returns-clause-relaxed : goal.returns-clause-relaxed
returns-clause-relaxed c = λ p g t ok. feasible_relaxed p t ok g

pub returns-clause-bound : goal.returns-clause-bound
returns-clause-bound c = λ p g b bound t ok. group_bound_holds p t ok g b bound
