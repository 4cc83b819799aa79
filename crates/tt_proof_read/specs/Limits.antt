-- The limits of a leaf, and the claims of a version, for users who need only these.
use Rattle.std.specs.Prelude.{◌≡◌, ℕ, ◌≤◌, true, All, ⊤}
use Rattle.tt_list_laws.specs.Words.{are_distinct}
use Rattle.tt_leaf.specs.declared.leaf.Claim.{Claim}
use Rattle.tt_leaf.specs.declared.leaf.Claim.TheVariants.{Capacity, Prices, Stacked}
use Rattle.tt_leaf.specs.declared.leaf.Leaf.{Leaf}
use Rattle.tt_leaf.specs.declared.leaf.Leaf.TheVariants.{Clique, Slots, Cost}
use Rattle.tt_proof_read.specs.declared.format.TheConstants.{MAX_PRICE}

-- No price is above 1,000,000; the courses of one `K` or `H` are distinct.
abbrev pub IsShortClaim : Claim → Type 0
IsShortClaim (Capacity c u) = u ≤ MAX_PRICE
IsShortClaim (Prices courses rooms) = All (λ k. k.1 ≤ MAX_PRICE) courses × All (λ k. k.1 ≤ MAX_PRICE) rooms
IsShortClaim _ = ⊤

-- The courses of a clique or of slots are distinct, and no price of a claim is above 1,000,000.
abbrev pub IsShortLeaf : Leaf → Type 0
IsShortLeaf (Clique cs) = are_distinct cs ≡ true
IsShortLeaf (Slots cs) = are_distinct cs ≡ true
IsShortLeaf (Cost claims) = All IsShortClaim claims
IsShortLeaf _ = ⊤

-- `Prices` and `Stacked` are claims of version 2.
abbrev pub IsClaimIn : ℕ → Claim → Type 0
IsClaimIn v (Prices courses rooms) = v ≡ 2
IsClaimIn v (Stacked c) = v ≡ 2
IsClaimIn v _ = ⊤

-- All claims of the leaf may occur in a file of this version.
abbrev pub IsLeafIn : ℕ → Leaf → Type 0
IsLeafIn v (Cost claims) = All (IsClaimIn v) claims
IsLeafIn v _ = ⊤
