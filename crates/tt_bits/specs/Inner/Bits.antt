-- Numbers of 64 bits as sets of the numbers below 64.
use Rattle.std.specs.Prelude.{◌≡◌, ℕ, ◌<◌, ◌==◌, Bool, not, ◌&&◌, ◌||◌, List, length, slice_index_or}
use Rattle.std.specs.List.{list_all}
use Rattle.std.specs.Int.{bit_at}
use Rattle.tt_list_laws.specs.Words.{range_below}

-- Whether the set has this number: the bit at that position is 1.
abbrev pub has_bit : ℕ → ℕ → Bool
has_bit w r = bit_at w r == 1

-- The positions of the 64 bits, in ascending order.
unfoldable pub bits : List ℕ
bits = range_below 64

-- Each number of the set passes the test.
abbrev pub each_bit : ℕ → (ℕ → Bool) → Bool
each_bit w t = list_all (λ k. not (has_bit w k) || t k) bits

-- The bits of the mask are cleared in one word of the table; all other words are as before.
pub record Clears (old : List ℕ) (place mask : ℕ) (new : List ℕ) : Type 0 where
  pub len : length new ≡ length old
  pub here : (r : ℕ) → r < 64 → has_bit (slice_index_or new place 0) r ≡ (has_bit (slice_index_or old place 0) r && not (has_bit mask r))
  pub others : (i : ℕ) → (i ≡ place → ⊥) → slice_index_or new i 0 ≡ slice_index_or old i 0
