-- The three parts of the condition on a leaf of a proof: its numbers, its limits and its version.
use Rattle.std.proofs.Common.{ℕ}
use Rattle.tt_instance.specs.Problem.{Problem}
use Rattle.tt_leaf.specs.Ranges.{IsClaimOf, IsLeafOf}
use Rattle.tt_leaf.specs.declared.leaf.Claim.{Claim}
use Rattle.tt_leaf.specs.declared.leaf.Claim.TheVariants.{Capacity, Days, Compact, Stable, Prices, Stacked}
use Rattle.tt_leaf.specs.declared.leaf.Leaf.{Leaf}
use Rattle.tt_leaf.specs.declared.leaf.Leaf.TheVariants.{Empty, Many, Clique, Slots, Cost}
use Rattle.tt_proof_read.specs.Limits.{IsShortClaim, IsShortLeaf, IsClaimIn, IsLeafIn}
use Rattle.tt_proof_read.specs.Spelling.{IsClaim, IsLeaf}

module _ (p : Problem) (v : ℕ) where
  pub claim_parts : (claim : Claim) → IsClaim p v claim → IsClaimOf p claim × IsShortClaim claim × IsClaimIn v claim
  claim_parts (Capacity c u) h = (h.0, h.1, tt)
  claim_parts (Days c) h = (h, tt, tt)
  claim_parts (Compact q) h = (h, tt, tt)
  claim_parts (Stable c) h = (h, tt, tt)
  claim_parts (Prices courses rooms) h = ((h.1.0, h.2.0), (h.1.1, h.2.1), h.0)
  claim_parts (Stacked c) h = (h.1, tt, h.0)

  claim_whole : (claim : Claim) → IsClaimOf p claim → IsShortClaim claim → IsClaimIn v claim → IsClaim p v claim
  claim_whole (Capacity c u) numbers short fits = (numbers, short)
  claim_whole (Days c) numbers short fits = numbers
  claim_whole (Compact q) numbers short fits = numbers
  claim_whole (Stable c) numbers short fits = numbers
  claim_whole (Prices courses rooms) numbers short fits = (fits, (numbers.0, short.0), (numbers.1, short.1))
  claim_whole (Stacked c) numbers short fits = (fits, numbers)

  pub leaf_parts : (leaf : Leaf) → IsLeaf p v leaf → IsLeafOf p leaf × IsShortLeaf leaf × IsLeafIn v leaf
  leaf_parts (Empty g) h = (h, tt, tt)
  leaf_parts (Many c) h = (h, tt, tt)
  leaf_parts (Clique cs) h = (h.0, h.1, tt)
  leaf_parts (Slots cs) h = (h.0, h.1, tt)
  leaf_parts (Cost claims) h = (
    λ k c e. (claim_parts _ (h k c e)).0,
    λ k c e. (claim_parts _ (h k c e)).1,
    λ k c e. (claim_parts _ (h k c e)).2,
  )

  pub leaf_whole : (leaf : Leaf) → IsLeafOf p leaf → IsShortLeaf leaf → IsLeafIn v leaf → IsLeaf p v leaf
  leaf_whole (Empty g) numbers short fits = numbers
  leaf_whole (Many c) numbers short fits = numbers
  leaf_whole (Clique cs) numbers short fits = (numbers, short)
  leaf_whole (Slots cs) numbers short fits = (numbers, short)
  leaf_whole (Cost claims) numbers short fits = λ k c e. claim_whole _ (numbers k c e) (short k c e) (fits k c e)
