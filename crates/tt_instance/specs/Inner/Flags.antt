-- Flags of numbers, as bits of words.
use Rattle.std.specs.Prelude.{ℕ, ◌/◌, ◌%◌, Bool, List, map, slice_index_or}
use Rattle.tt_list_laws.specs.Words.{range_below}
use Rattle.tt_bits.specs.Inner.Bits.{has_bit}

-- The bit of a number.
abbrev pub flag_in : List ℕ → ℕ → Bool
flag_in words k = has_bit (slice_index_or words (k / 64) 0) (k % 64)

-- The bits of the numbers below a length.
abbrev pub flags_in : List ℕ → ℕ → List Bool
flags_in words len = map (flag_in words) (range_below len)
