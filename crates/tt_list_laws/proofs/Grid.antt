-- Places in rows: the row and the column of a place.
use Rattle.std.proofs.Common.{◌≡◌, ℕ, ◌+◌, ◌*◌, ◌/◌, ◌%◌, ◌<◌, arith, subst}
use Rattle.std.proofs.Math.Nat.{mul_comm}
use Rattle.std.proofs.lemmas.Nat.{mul-add-lt}

-- a place of a row is one of the table
pub within_row : (a w b h : ℕ) → a < h → b < w → a * w + b < h * w
within_row a w b h ha hb = subst (λ n. a * w + b < n) (mul_comm w h) (mul-add-lt a w b h ha hb)

-- the block of a number that is given by its block
pub block_back : (w k : ℕ) → k < 64 → (w * 64 + k) / 64 ≡ w
block_back w k h = omega arith

-- its place in the block
pub number_back : (w k : ℕ) → k < 64 → (w * 64 + k) % 64 ≡ k
number_back w k h = omega arith
