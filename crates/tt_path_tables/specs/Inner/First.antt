-- The words of a table that has all cells.
use Rattle.std.specs.Prelude.{◌≡◌, ℕ, ◌+◌, ◌*◌, ◌%◌, ◌<◌, nat_lt, List, length, slice_index_or}
use Rattle.tt_instance.specs.Problem.{Problem}
use Rattle.tt_bits.specs.Inner.Bits.{has_bit}
use Rattle.tt_path_tables.specs.Inner.Words.{width}

-- The words are n, and each has the bits of its rooms that exist.
pub record AreFull (p : Problem) (words : List ℕ) (n : ℕ) : Type 0 where
  pub len : length words ≡ n
  pub bits : (i k : ℕ) → i < n → k < 64 → has_bit (slice_index_or words i 0) k ≡ nat_lt (i % width p * 64 + k) (length p.rooms)
