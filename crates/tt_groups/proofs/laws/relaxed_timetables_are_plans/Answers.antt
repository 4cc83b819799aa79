use Rattle.tt_groups.proofs.Exact.{plan-is_cost}
use Rattle.tt_groups.proofs.Projection.{plan_of}
use Rattle.tt_groups.proofs.laws.relaxed_timetables_are_plans.Goals as goal

pub returns-clause-plan : goal.returns-clause-plan
returns-clause-plan c = λ p g t relaxed. plan_of p g t relaxed

pub returns-clause-paid : goal.returns-clause-paid
returns-clause-paid c = λ p g t relaxed. plan-is_cost p g t relaxed
