-- The properties of a leaf that was found.
use Rattle.tt_instance.specs.Problem.{Problem}
use Rattle.std.specs.Prelude.{List, All}
use Rattle.tt_path.specs.Facts.{IsPattern}
use Rattle.tt_path.specs.declared.facts.Fact.{Fact}
use Rattle.tt_leaf_rules.specs.Leaves.{IsRight}
use Rattle.tt_leaf.specs.Ranges.{IsClaimOf, IsLeafOf}
use Rattle.tt_leaf.specs.declared.leaf.Claim.{Claim}
use Rattle.tt_leaf.specs.declared.leaf.Bound.{Bound}
use Rattle.tt_leaf.specs.declared.leaf.Leaf.{Leaf}
use Rattle.tt_proof_read.specs.Limits.{IsShortClaim, IsShortLeaf}

-- The numbers of the leaf are in the range of the instance, and it may appear in a proof.
pub record IsAnswer (p : Problem) (leaf : Leaf) : Type 0 where
  pub numbers : IsLeafOf p leaf
  pub short : IsShortLeaf leaf

-- The leaf is right for the bound, and it may appear in a proof.
pub record Closes (p : Problem) (path : List Fact) (b : Bound) (leaf : Leaf) : Type 0 where
  pub right : IsRight p path b leaf
  pub answer : IsAnswer p leaf

-- The numbers of each fact are in the range of the instance.
abbrev pub ArePatterns : Problem → List Fact → Type 0
ArePatterns p path = All (λ f. IsPattern p f.pattern) path

-- The numbers of a claim are in the range of the instance, and it may appear in a proof.
pub record IsFitClaim (p : Problem) (claim : Claim) : Type 0 where
  pub numbers : IsClaimOf p claim
  pub short : IsShortClaim claim
