use Rattle.tt_walk.proofs.Improvements.{leads_here}
use Rattle.tt_search.proofs.improving.go_plans.Goals as goal

pub returns-then-not-can_plan-clause-reached : goal.returns-then-not-can_plan-clause-reached
returns-then-not-can_plan-clause-reached g c = leads_here _ _ _
