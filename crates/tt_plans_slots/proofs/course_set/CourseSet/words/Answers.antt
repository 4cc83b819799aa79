use Rattle.std.proofs.Common.{Bool, List, false, ◌/◌, ◌%◌, get_or, ap, ◌∙◌}
use Rattle.tt_bits.specs.Inner.Bits.{has_bit}
use Rattle.tt_plans_slots.proofs.Words.{flag_listed}
use Rattle.tt_plans_slots.proofs.course_set.CourseSet.words.Goals as goal

pub returns : goal.returns
returns c = λ k.
    ap (λ ws. has_bit (get_or ws (k / 64) 0) (k % 64)) c.deref.ensures.value
    ∙ flag_listed c.self.inside.words.items c.self.inside.courses k c.self.invariant
    ∙ ap (λ (flags : List Bool). get_or flags k false) c.self.view_is
