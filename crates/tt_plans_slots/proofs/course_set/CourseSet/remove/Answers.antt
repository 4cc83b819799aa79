use Rattle.std.proofs.Common.{◌≡◌, ◌<◌, Bool, List, false, ◌/◌, ◌%◌, get_or, set, ap, ◌∙◌}
use Rattle.tt_instance.proofs.Flagging.{below, word_read, bit_cleared, written}
use Rattle.tt_plans_slots.proofs.Words.{still_words}
use Rattle.tt_plans_slots.proofs.course_set.CourseSet.remove.Goals as goal

pub invariant_of-self : goal.invariant_of-self
invariant_of-self c =
    let words = c.self.inside.words.items in
    let n = c.self.inside.courses in
    let lt : c.args.course < n = below words n c.args.course c.args.self.now c.self.view_is c.requires in
    let word : c.index_mut-word.result.now ≡ get_or words (c.args.course / 64) 0 =
    word_read words n c.args.course c.index_mut-word.result.now c.self.invariant.len lt c.index_mut-word.ensures.value in
    still_words words n c.args.course c.without.result false c.self.invariant lt
    (bit_cleared (get_or words (c.args.course / 64) 0) c.index_mut-word.result.now c.one.result c.without.result (c.args.course % 64) word
    c.one.ensures c.without.ensures)

pub returns : goal.returns
returns c =
    let words = c.self.inside.words.items in
    let n = c.self.inside.courses in
    let lt : c.args.course < n = below words n c.args.course c.args.self.now c.self.view_is c.requires in
    let word : c.index_mut-word.result.now ≡ get_or words (c.args.course / 64) 0 =
    word_read words n c.args.course c.index_mut-word.result.now c.self.invariant.len lt c.index_mut-word.ensures.value in
    written words n c.args.course c.without.result false c.self.invariant.len lt
    (bit_cleared (get_or words (c.args.course / 64) 0) c.index_mut-word.result.now c.one.result c.without.result (c.args.course % 64) word
    c.one.ensures c.without.ensures)
    ∙ ap (λ (flags : List Bool). set flags c.args.course false) c.self.view_is
