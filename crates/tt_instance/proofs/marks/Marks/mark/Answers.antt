use Rattle.std.proofs.Common.{◌≡◌, ◌<◌, Bool, List, true, ◌/◌, ◌%◌, get_or, set, ap, ◌∙◌}
use Rattle.tt_instance.proofs.Flagging.{below, word_read, bit_set, written}
use Rattle.tt_instance.proofs.marks.Marks.mark.Goals as goal

pub returns : goal.returns
returns c =
    let words = c.self.inside.words.items in
    let lt : c.args.number < c.self.inside.len = below words c.self.inside.len c.args.number c.args.self.now c.self.view_is c.requires in
    let word : c.index_mut-word.result.now ≡ get_or words (c.args.number / 64) 0 =
    word_read words c.self.inside.len c.args.number c.index_mut-word.result.now c.self.invariant lt c.index_mut-word.ensures.value in
    written words c.self.inside.len c.args.number c.either.result true c.self.invariant lt
    (bit_set (get_or words (c.args.number / 64) 0) c.index_mut-word.result.now c.one.result c.either.result
    (c.args.number % 64) word c.one.ensures c.either.ensures)
    ∙ ap (λ (flags : List Bool). set flags c.args.number true) c.self.view_is
