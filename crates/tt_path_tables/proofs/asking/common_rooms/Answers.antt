use Rattle.std.proofs.Common.{◌≡◌, ℕ, ◌+◌, ◌*◌, not, ◌&&◌, ◌||◌, sym, ap, ◌∙◌, arith}
use Rattle.std.specs.Prelude.{◌==◌}
use Rattle.std.specs.List.{list_all}
use Rattle.tt_list_laws.specs.Words.{range_below}
use Rattle.tt_bits.specs.Inner.Bits.{has_bit, bits}
use Rattle.tt_bits.proofs.BitLaws.{all_bits}
use Rattle.tt_path.specs.Facts.{agrees}
use Rattle.tt_path_tables.specs.Inner.Rooms.{has_room}
use Rattle.tt_path_tables.specs.Inner.Words.{width}
use Rattle.tt_path_tables.specs.Inner.Tables.{is_open}
use Rattle.tt_path_tables.proofs.Reading.{all_block, spare-cell}
use Rattle.tt_path_tables.proofs.asking.common_rooms.Goals as goal
use Rattle.tt_list_laws.proofs.Below.{list_all-more}

pub loop-block-preserved : goal.loop-block-preserved
loop-block-preserved c = λ r.
    let a = c.args in
    let spot = a.spot in
    let n = c.loop-block.block in
    let word = c.open_word-word.result in
    let open_at = λ (w k : ℕ). is_open a.instance.now a.table.now.words spot.room spot.course spot.slot.day spot.slot.period (w * 64 + k) in
    let block = λ (w : ℕ). list_all (λ k. not (open_at w k) || (w * 64 + k == r)) bits in
    c.both-common.ensures r
    ∙ ap (λ b. b && has_room c.common_of.result r) (c.loop-block.invariant r)
    ∙ ap (λ b. list_all block (range_below n) && b) (c.common_of.ensures r
    ∙ all_bits (λ k. not (has_bit word k) || (n * 64 + k == r)) (λ k. not (open_at n k) || (n * 64 + k == r))
    (λ k h. ap (λ b. not b || (n * 64 + k == r)) (c.open_word-word.ensures k h)))
    ∙ sym (list_all-more block n)

pub returns : goal.returns
returns c = λ r.
    let a = c.args in
    let spot = a.spot in
    let q = c.requires in
    let p = a.instance.now in
    let words = a.table.now.words in
    let open_room = is_open p words spot.room spot.course spot.slot.day spot.slot.period in
    let end : c.loop-block.block ≡ width p = omega (arith, c.width-block-end.ensures.value) in
    c.loop-block.invariant r
    ∙ ap (λ n. list_all (λ w. list_all (λ k. not (open_room (w * 64 + k)) || (w * 64 + k == r)) bits) (range_below n)) end
    ∙ all_block p (λ k. not (open_room k) || (k == r))
    (λ w k hw hk past. ap (λ b. not (b && agrees spot.room (w * 64 + k)) || (w * 64 + k == r))
    (spare-cell p words spot.course spot.slot.day spot.slot.period w k q.table q.spot.course q.spot.slot.day q.spot.slot.period
    hw hk past))
