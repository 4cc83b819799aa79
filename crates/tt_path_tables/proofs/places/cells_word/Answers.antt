use Rattle.std.proofs.Common.{◌≡◌, ◌-◌, false, not, ◌&&◌, ◌||◌, sym, ap, ◌∙◌, arith, ne_eqb}
use Rattle.std.proofs.Math.Bool.{and-true}
use Rattle.std.specs.Prelude.{◌==◌, slice_index_or}
use Rattle.tt_bits.specs.Inner.Bits.{has_bit}
use Rattle.tt_bits.proofs.BitLaws.{has_bit-none}
use Rattle.tt_path_tables.specs.Inner.Words.{size, word_at, is_plain}
use Rattle.tt_path_tables.proofs.Reading.{cell-bit}
use Rattle.tt_path_tables.proofs.places.cells_word.Goals as goal

pub returns-then-state-eq-PLAIN : goal.returns-then-state-eq-PLAIN
returns-then-state-eq-PLAIN c = λ k h.
    let a = c.args in
    let p = a.instance.now in
    let words = a.table.now.words in
    let own = has_bit (word_at p words a.course a.slot.day a.slot.period a.block) k in
    let kept = has_bit (word_at p words a.course a.slot.day p.periods a.block) k
    && (has_bit (word_at p words a.course p.days a.slot.period a.block) k
    && has_bit (word_at p words a.course p.days p.periods a.block) k) in
    let last : c.len.result - 1 ≡ size p = omega (arith, c.len.ensures, c.requires.table.len) in
    let state : slice_index_or words (size p) 0 ≡ 0 =
    ap (λ i. slice_index_or words i 0) (sym last) ∙ sym c.word-state.ensures ∙ c.if-state-eq-PLAIN.true in
    ap (λ n. has_bit n k) (c.word.ensures ∙ ap (λ i. slice_index_or words i 0) c.place.ensures.value)
    ∙ sym (cell-bit p words a.course a.slot.day a.slot.period a.block k h
    ∙ ap (λ w. not (w == 1) && own && ((w == 0) || kept)) state ∙ and-true own)

pub returns-then-state-eq-CLEARED : goal.returns-then-state-eq-CLEARED
returns-then-state-eq-CLEARED c = λ k h.
    let a = c.args in
    let p = a.instance.now in
    let words = a.table.now.words in
    let own = has_bit (word_at p words a.course a.slot.day a.slot.period a.block) k in
    let kept = has_bit (word_at p words a.course a.slot.day p.periods a.block) k
    && (has_bit (word_at p words a.course p.days a.slot.period a.block) k
    && has_bit (word_at p words a.course p.days p.periods a.block) k) in
    let last : c.len.result - 1 ≡ size p = omega (arith, c.len.ensures, c.requires.table.len) in
    let state : slice_index_or words (size p) 0 ≡ 1 =
    ap (λ i. slice_index_or words i 0) (sym last) ∙ sym c.word-state.ensures ∙ c.if-state-eq-CLEARED.true in
    has_bit-none k
    ∙ sym (cell-bit p words a.course a.slot.day a.slot.period a.block k h ∙ ap (λ w. not (w == 1) && own && ((w == 0) || kept)) state)

pub returns : goal.returns
returns c = λ k h.
    let a = c.args in
    let p = a.instance.now in
    let words = a.table.now.words in
    let own = has_bit (word_at p words a.course a.slot.day a.slot.period a.block) k in
    let kept = has_bit (word_at p words a.course a.slot.day p.periods a.block) k
    && (has_bit (word_at p words a.course p.days a.slot.period a.block) k
    && has_bit (word_at p words a.course p.days p.periods a.block) k) in
    let last : c.len.result - 1 ≡ size p = omega (arith, c.len.ensures, c.requires.table.len) in
    let state : c.word-state.result ≡ slice_index_or words (size p) 0 = c.word-state.ensures ∙ ap (λ i. slice_index_or words i 0) last in
    c.kept_word.ensures k h
    ∙ sym (cell-bit p words a.course a.slot.day a.slot.period a.block k h
    ∙ ap (λ v. not v && own && (is_plain p words || kept))
    (ne_eqb (slice_index_or words (size p) 0) 1 (λ e. c.if-state-eq-CLEARED.false (state ∙ e)))
    ∙ ap (λ v. own && (v || kept)) (ne_eqb (slice_index_or words (size p) 0) 0 (λ e. c.if-state-eq-PLAIN.false (state ∙ e))))
