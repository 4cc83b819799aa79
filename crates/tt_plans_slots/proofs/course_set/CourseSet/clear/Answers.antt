use Rattle.std.proofs.Common.{Bool, List, false, length, replicate, sym, ap, ◌∙◌}
use Rattle.tt_instance.proofs.Flagging.{flags_length, none_set}
use Rattle.tt_plans_slots.proofs.Words.{empty_words}
use Rattle.tt_plans_slots.proofs.course_set.CourseSet.clear.Goals as goal

pub invariant_of-self : goal.invariant_of-self
invariant_of-self c = empty_words c.fill.new.self.items c.self.inside.words.len c.self.inside.courses
    (c.fill.ensures.items (λ y e. e)) (c.self.inside.words.ok.0 ∙ c.self.invariant.len)

pub returns : goal.returns
returns c =
    none_set c.fill.new.self.items c.self.inside.words.len c.self.inside.courses (c.fill.ensures.items (λ y e. e))
    ∙ ap (λ n. replicate n false) (sym (flags_length c.self.inside.words.items c.self.inside.courses)
    ∙ ap (λ (flags : List Bool). length flags) c.self.view_is)
