use Rattle.tt_walk.proofs.Improvements.{leads_here}
use Rattle.tt_search.proofs.planning.make_plan.Goals as goal

pub returns-then-count-left-clause-reached : goal.returns-then-count-left-clause-reached
returns-then-count-left-clause-reached c = leads_here _ _ _
