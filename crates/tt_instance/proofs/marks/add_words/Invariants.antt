use Rattle.std.proofs.Common.{◌≡◌, ℕ, ◌<◌, ◌≤◌, ◌||◌, length, slice_index_or}
use Rattle.tt_bits.specs.Inner.Bits.{has_bit}
use Rattle.tt_instance.proofs.marks.add_words.Given as goal

abbrev pub invariant-loop-place : goal.invariant-loop-place
invariant-loop-place l = record {
  len : length l.words.items ≡ length l.fn.words.items;
  before : (i r : ℕ) → i < l.place → r < 64 → has_bit (slice_index_or l.words.items i 0) r
      ≡ (has_bit (slice_index_or l.fn.words.items i 0) r || has_bit (slice_index_or l.others i 0) r);
  after : (i : ℕ) → l.place ≤ i → slice_index_or l.words.items i 0 ≡ slice_index_or l.fn.words.items i 0;
}
