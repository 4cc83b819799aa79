use Rattle.std.proofs.Common.{◌≡◌, ◌<◌, Bool, List, false, ◌/◌, ◌%◌, get_or, set, ap, ◌∙◌}
use Rattle.tt_instance.proofs.Flagging.{below, word_read, bit_cleared, written}
use Rattle.tt_instance.proofs.marks.Marks.clear.Goals as goal

pub returns : goal.returns
returns c =
    let words = c.self.inside.words.items in
    let lt : c.args.number < c.self.inside.len = below words c.self.inside.len c.args.number c.args.self.now c.self.view_is c.requires in
    let word : c.index_mut-word.result.now ≡ get_or words (c.args.number / 64) 0 =
    word_read words c.self.inside.len c.args.number c.index_mut-word.result.now c.self.invariant lt c.index_mut-word.ensures.value in
    written words c.self.inside.len c.args.number c.without.result false c.self.invariant lt
    (bit_cleared (get_or words (c.args.number / 64) 0) c.index_mut-word.result.now c.one.result c.without.result
    (c.args.number % 64) word c.one.ensures c.without.ensures)
    ∙ ap (λ (flags : List Bool). set flags c.args.number false) c.self.view_is
