-- The spare of slots in which nothing is taught.
use Rattle.std.specs.Prelude.{◌≡◌, ℕ, ◌+◌, ◌<◌, Bool, false, List, [], length, replicate, slice_index, slice_index_or}

-- At each level there is spare for as many lectures as there are rooms up to it.
pub record IsFull (rooms : ℕ) (spare : List ℕ) : Type 0 where
  pub len : length spare ≡ rooms
  pub each : (k : ℕ) → k < rooms → slice_index spare k ≡ k + 1

-- No course is in any row.
pub record AreEmpty (slots courses : ℕ) (rows : List (List Bool)) : Type 0 where
  pub len : length rows ≡ slots
  pub each : (s : ℕ) → s < slots → slice_index_or rows s [] ≡ replicate courses false

-- Each row is full.
pub record AreFull (slots rooms : ℕ) (rows : List (List ℕ)) : Type 0 where
  pub len : length rows ≡ slots
  pub each : (s : ℕ) → s < slots → IsFull rooms (slice_index_or rows s [])
