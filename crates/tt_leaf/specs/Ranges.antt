-- The numbers of a leaf.
use Rattle.std.specs.Prelude.{◌≡◌, ℕ, ◌<◌, ◌==◌, true, not, List, length, map, All}
use Rattle.tt_list_laws.specs.Words.{each_two}
use Rattle.tt_instance.specs.Problem.{Problem}
use Rattle.tt_path.specs.Facts.{IsPattern}
use Rattle.tt_leaf.specs.declared.leaf.Claim.{Claim}
use Rattle.tt_leaf.specs.declared.leaf.Claim.TheVariants.{Capacity, Days, Compact, Stable, Prices, Stacked}
use Rattle.tt_leaf.specs.declared.leaf.Leaf.{Leaf}
use Rattle.tt_leaf.specs.declared.leaf.Leaf.TheVariants.{Empty, Many, Clique, Slots, Cost}

-- Each of the numbers is below the count.
abbrev pub AreBelow : ℕ → List ℕ → Type 0
AreBelow count ns = All (λ n. n < count) ns

-- Prices of numbers below a bound, each number at most once.
pub record ArePrices (count : ℕ) (prices : List (ℕ × ℕ)) : Type 0 where
  pub within : AreBelow count (map (λ k. k.0) prices)
  pub once : each_two (λ a b. not (a.0 == b.0)) prices ≡ true

-- The numbers of a claim are in the range of the instance, and no number has two prices.
abbrev pub IsClaimOf : Problem → Claim → Type 0
IsClaimOf p (Capacity c u) = c < length p.courses
IsClaimOf p (Days c) = c < length p.courses
IsClaimOf p (Compact q) = q < length p.curricula
IsClaimOf p (Stable c) = c < length p.courses
IsClaimOf p (Prices courses rooms) = ArePrices (length p.courses) courses × ArePrices (length p.rooms) rooms
IsClaimOf p (Stacked c) = c < length p.courses

-- The numbers of a leaf are in the range of the instance.
abbrev pub IsLeafOf : Problem → Leaf → Type 0
IsLeafOf p (Empty g) = IsPattern p g
IsLeafOf p (Many c) = c < length p.courses
IsLeafOf p (Clique cs) = AreBelow (length p.courses) cs
IsLeafOf p (Slots cs) = AreBelow (length p.courses) cs
IsLeafOf p (Cost claims) = All (IsClaimOf p) claims
