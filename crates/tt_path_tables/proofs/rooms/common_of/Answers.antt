use Rattle.std.proofs.Common.{ℕ, ◌+◌, ◌*◌, not, ◌&&◌, sym, ap, ◌∙◌, arith}
use Rattle.std.specs.Prelude.{◌==◌}
use Rattle.tt_bits.specs.Inner.Bits.{has_bit, each_bit}
use Rattle.tt_bits.proofs.BitLaws.{each_bit-none, each_bit-one, each_bit_at, another_bit}
use Rattle.std.proofs.lemmas.Bool.{false_from_ne_true, eqb-true, not-true, not-false}
use Rattle.tt_path_tables.proofs.rooms.common_of.Goals as goal

pub returns-then-word-eq0 : goal.returns-then-word-eq0
returns-then-word-eq0 c = λ r. sym (each_bit-none c.args.word (λ k. c.args.block * 64 + k == r) c.if-word-eq0.true)

pub returns-then-is_empty : goal.returns-then-is_empty
returns-then-is_empty c = λ r.
    let w = c.args.word in
    let j = c.lowest-room.result in
    sym (each_bit-one w c.without.result j c.lowest-room.ensures.within c.lowest-room.ensures.there
    (λ k l. c.without.ensures k l ∙ ap (λ b. has_bit w k && not b) (c.one.ensures k l)) (λ k. c.args.block * 64 + k == r)
    (not-true _ (sym c.is_empty.ensures ∙ c.if-is_empty.true)))

pub returns-else-is_empty : goal.returns-else-is_empty
returns-else-is_empty c = λ r.
    let w = c.args.word in
    let j = c.lowest-room.result in
    let t = λ (k : ℕ). c.args.block * 64 + k == r in
    let o = another_bit w c.without.result j c.lowest-room.ensures.within c.lowest-room.ensures.there
    (λ k l. c.without.ensures k l ∙ ap (λ b. has_bit w k && not b) (c.one.ensures k l))
    (not-false _ (sym c.is_empty.ensures ∙ c.if-is_empty.false)) in
    sym (false_from_ne_true (each_bit w t) (λ e.
    let a = eqb-true (c.args.block * 64 + o.0) r (each_bit_at w t o.0 o.1 e o.2) in
    let b = eqb-true (c.args.block * 64 + j) r (each_bit_at w t j c.lowest-room.ensures.within e c.lowest-room.ensures.there) in
    o.3 (omega arith)))
