use Rattle.tt_instance.proofs.Flagging.{none_set}
use Rattle.tt_plans_slots.proofs.Words.{empty_words}
use Rattle.tt_plans_slots.proofs.course_set.CourseSet.new.Goals as goal

pub invariant_of-result : goal.invariant_of-result
invariant_of-result c = empty_words c.in_ok-words.words.items c.div_ceil.result c.args.courses
    (c.in_ok-words.ensures.items_if_clones_equal (λ y e. e)) c.div_ceil.ensures

pub returns : goal.returns
returns c = none_set c.in_ok-words.words.items c.div_ceil.result c.args.courses (c.in_ok-words.ensures.items_if_clones_equal (λ y e. e))
