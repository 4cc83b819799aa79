use Rattle.std.proofs.Common.{◌≡◌, ℕ, ◌+◌, ◌-◌, ◌/◌, ◌%◌, ◌<◌, false, sym, ap, subst, ◌∙◌, arith, inl, inr}
use Rattle.std.specs.Prelude.{◌==◌, slice_index_or}
use Rattle.std.specs.List.{list_any}
use Rattle.std.proofs.lemmas.Bool.{both_ways, cases_lt, false_from_ne_true, not-true}
use Rattle.tt_bits.specs.Inner.Bits.{has_bit, bits}
use Rattle.tt_bits.proofs.BitLaws.{any_bits_at}
use Rattle.tt_path_tables.specs.Inner.Words.{width, place, size, word_at, is_plain}
use Rattle.tt_path_tables.proofs.Grid.{block_within}
use Rattle.tt_path_tables.proofs.Wide.{gone_cell}
use Rattle.tt_path_tables.proofs.asking.is_gone.Goals as goal

pub loop-block-preserved : goal.loop-block-preserved
loop-block-preserved c = λ w k lt h.
    let a = c.args in
    let p = a.instance.now in
    let words = a.table.now.words in
    let n = c.loop-block.block in
    let found = c.word-in-loop-block.result in
    let none : list_any (has_bit found) bits ≡ false =
    not-true (list_any (has_bit found) bits) (sym c.is_empty.ensures ∙ c.if-not-is_empty.false) in
    let bit : has_bit found k ≡ false =
    false_from_ne_true (has_bit found k) (λ t. both_ways (list_any (has_bit found) bits) none (any_bits_at (has_bit found) k h t)) in
    let word : found ≡ word_at p words a.course p.days p.periods n =
    c.word-in-loop-block.ensures ∙ ap (λ i. slice_index_or words i 0) (c.place.ensures.value
    ∙ ap (λ d. place p a.course d c.periods.result + n) c.days.ensures.value
    ∙ ap (λ s. place p a.course p.days s + n) c.periods.ensures.value) in
    elim (cases_lt w n) [
      | inl l ↦ c.loop-block.invariant w k l h
      | inr l ↦
          let e : n ≡ w = omega (arith, l, lt) in
          subst (λ i. has_bit (word_at p words a.course p.days p.periods i) k ≡ false) e (ap (λ v. has_bit v k) (sym word) ∙ bit)
    ]

pub returns : goal.returns
returns c = λ e x inside own.
    let a = c.args in
    let p = a.instance.now in
    let words = a.table.now.words in
    let last : c.len.result - 1 ≡ size p = omega (arith, c.len.ensures, c.requires.table.len) in
    let state : slice_index_or words (size p) 0 ≡ 2 =
    ap (λ i. slice_index_or words i 0) (sym last) ∙ sym c.word.ensures ∙ c.if-word-ne-WIDE.false in
    let end : c.loop-block.block ≡ width p = omega (arith, c.width-block-end.ensures.value) in
    let within = block_within p x.room inside.room in
    gone_cell p words (ap (λ w. w == 0) state) x
    (ap (λ i. has_bit (word_at p words i p.days p.periods (x.room / 64)) (x.room % 64)) own
    ∙ c.loop-block.invariant (x.room / 64) (x.room % 64) (omega (arith, within, end)) (omega arith))
