-- Sets of numbers below 64 in the words of a table.
use Rattle.std.specs.Prelude.{◌≡◌, ℕ, ◌<◌, ◌==◌, Bool, ◌||◌, List, length, slice_index_or}
use Rattle.tt_bits.specs.Inner.Bits.{has_bit}

-- The set at a place has the number.
abbrev pub has_at : List ℕ → ℕ → ℕ → Bool
has_at words i s = has_bit (slice_index_or words i 0) s

-- The number has been added to the set at one place; all other words are as before.
pub record Puts (old : List ℕ) (place number : ℕ) (new : List ℕ) : Type 0 where
  pub len : length new ≡ length old
  pub here : (s : ℕ) → s < 64 → has_at new place s ≡ (has_at old place s || (s == number))
  pub others : (i : ℕ) → (i ≡ place → ⊥) → slice_index_or new i 0 ≡ slice_index_or old i 0
