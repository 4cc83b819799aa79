use Rattle.tt_plans_slots.proofs.Words.{AreApart}
use Rattle.tt_plans_slots.proofs.course_set.have_common.Given as goal

abbrev pub invariant-loop-place : goal.invariant-loop-place
invariant-loop-place l = AreApart l.words l.others l.place
