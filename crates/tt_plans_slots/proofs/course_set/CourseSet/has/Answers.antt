use Rattle.std.proofs.Common.{Bool, List, false, get_or, sym, ap, ◌∙◌, le-ltb}
use Rattle.tt_instance.proofs.Flagging.{flag_read, flag_past}
use Rattle.tt_plans_slots.proofs.course_set.CourseSet.has.Goals as goal

pub returns-then-course-self : goal.returns-then-course-self
returns-then-course-self c =
    c.has_bit.ensures ∙ flag_read c.self.inside.words.items c.self.inside.courses c.args.course c.index.result.now c.self.invariant.len
    c.if-course-self.true c.index.ensures
    ∙ ap (λ (flags : List Bool). get_or flags c.args.course false) c.self.view_is

pub returns-else-course-self : goal.returns-else-course-self
returns-else-course-self c =
    le-ltb c.args.course c.self.inside.courses c.if-course-self.false
    ∙ sym (flag_past c.self.inside.words.items c.self.inside.courses c.args.course c.if-course-self.false)
    ∙ ap (λ (flags : List Bool). get_or flags c.args.course false) c.self.view_is
