-- Numbers that have been seen.
use Rattle.std.specs.Prelude.{◌≡◌, ℕ, ◌<◌, Bool, false, List, length, slice_index_or, All}
use Rattle.tt_list_laws.specs.Words.{has_number}

-- Numbers below a count.
pub record Listed : Type 0 where
  pub count : ℕ
  pub numbers : List ℕ

-- The marks say which numbers are listed.
pub record AreMarked (marks : List Bool) (numbers : List ℕ) : Type 0 where
  pub below : All (λ n. n < length marks) numbers
  pub reported : (k : ℕ) → slice_index_or marks k false ≡ has_number numbers k
