use Rattle.std.proofs.Common.{refl}
use Rattle.tt_walk.proofs.Improvements.{leads_here}
use Rattle.tt_search.proofs.planning.make_steps.Goals as goal

pub loop-step-init : goal.loop-step-init
loop-step-init c = record { problem = refl; courses = refl; reached = leads_here _ _ 0 }
