use Rattle.std.proofs.Common.{◌≡◌, ◌<◌, Bool, List, true, ◌/◌, ◌%◌, get_or, set, ap, ◌∙◌}
use Rattle.tt_instance.proofs.Flagging.{below, word_read, bit_set, written}
use Rattle.tt_plans_slots.proofs.Words.{still_words}
use Rattle.tt_plans_slots.proofs.course_set.CourseSet.insert.Goals as goal

pub invariant_of-self : goal.invariant_of-self
invariant_of-self c =
    let words = c.self.inside.words.items in
    let n = c.self.inside.courses in
    let lt : c.args.course < n = below words n c.args.course c.args.self.now c.self.view_is c.requires in
    let word : c.index_mut-word.result.now ≡ get_or words (c.args.course / 64) 0 =
    word_read words n c.args.course c.index_mut-word.result.now c.self.invariant.len lt c.index_mut-word.ensures.value in
    still_words words n c.args.course c.either.result true c.self.invariant lt
    (bit_set (get_or words (c.args.course / 64) 0) c.index_mut-word.result.now c.one.result c.either.result (c.args.course % 64) word
    c.one.ensures c.either.ensures)

pub returns : goal.returns
returns c =
    let words = c.self.inside.words.items in
    let n = c.self.inside.courses in
    let lt : c.args.course < n = below words n c.args.course c.args.self.now c.self.view_is c.requires in
    let word : c.index_mut-word.result.now ≡ get_or words (c.args.course / 64) 0 =
    word_read words n c.args.course c.index_mut-word.result.now c.self.invariant.len lt c.index_mut-word.ensures.value in
    written words n c.args.course c.either.result true c.self.invariant.len lt
    (bit_set (get_or words (c.args.course / 64) 0) c.index_mut-word.result.now c.one.result c.either.result (c.args.course % 64) word
    c.one.ensures c.either.ensures)
    ∙ ap (λ (flags : List Bool). set flags c.args.course true) c.self.view_is
