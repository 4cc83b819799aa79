use Rattle.std.proofs.Common.{◌+◌, ◌*◌, not, ap, ◌∙◌}
use Rattle.std.specs.List.{list_any}
use Rattle.tt_bits.specs.Inner.Bits.{has_bit, bits}
use Rattle.tt_bits.proofs.BitLaws.{any_bits}
use Rattle.tt_path_tables.specs.Inner.Tables.{is_open}
use Rattle.tt_path_tables.proofs.asking.has_block.Goals as goal
use Rattle.tt_list_laws.proofs.Truth.{not-not}

pub returns : goal.returns
returns c =
    let a = c.args in
    let spot = a.spot in
    let w = c.open_word.result in
    ap not c.is_empty.ensures ∙ not-not (list_any (has_bit w) bits)
    ∙ any_bits (has_bit w)
    (λ k. is_open a.instance.now a.table.now.words spot.room spot.course spot.slot.day spot.slot.period (a.block * 64 + k))
    c.open_word.ensures
