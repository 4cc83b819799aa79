use Rattle.std.proofs.Common.{sym, ◌∙◌}
use Rattle.tt_plans_slots.proofs.course_set.CourseSet.meets.Goals as goal

pub returns-clause-some : goal.returns-clause-some
returns-clause-some c = λ e. let w = c.have_common.ensures.some e in (w.0, sym (c.words.ensures w.0) ∙ w.1, w.2)

pub returns-clause-none : goal.returns-clause-none
returns-clause-none c = λ e k t. c.have_common.ensures.none e k (c.words.ensures k ∙ t)
