-- The nodes that can be written.
use Rattle.std.specs.Prelude.{◌≡◌, ℕ, ◌≤◌, List, [], length, All, ⊤}
use Rattle.tt_leaf.specs.declared.leaf.Bound.{Bound}
use Rattle.tt_leaf.specs.declared.leaf.Leaf.{Leaf}
use Rattle.tt_leaf.specs.declared.leaf.Leaf.TheVariants.{Cost}
use Rattle.tt_text.specs.declared.feed.TheConstants.{MAX_BYTES}
use Rattle.tt_proof_read.specs.declared.format.TheConstants.{MAX_PROOF_NODES}
use Rattle.tt_proof_read.specs.declared.node.Node.{Node}
use Rattle.tt_proof_read.specs.declared.node.Node.TheVariants as node
use Rattle.tt_proof_read.specs.Limits.{IsShortClaim, IsLeafIn}
use Rattle.tt_proof_read.specs.Spelling.{IsBound}
use Rattle.tt_proof_read.specs.Trees.{Tree, preorder, IsPreorder, IsShallow}
use Rattle.tt_proof_write.specs.declared.fault.WriteFault.{WriteFault}
use Rattle.tt_proof_write.specs.declared.fault.WriteFault.TheVariants.{NotATree, OverLimit, NotInVersion, OutOfMemory}
use Rattle.tt_proof_write.specs.Written.{proof_text}

-- No price of the leaf's claims is above 1,000,000.
abbrev pub HasShortClaims : Leaf → Type 0
HasShortClaims (Cost claims) = All IsShortClaim claims
HasShortClaims _ = ⊤

-- whether no price of the node's claims is above 1,000,000
abbrev pub HasShortPrices : Node → Type 0
HasShortPrices (node.Split g) = ⊤
HasShortPrices (node.Leaf leaf) = HasShortClaims leaf

-- whether the tree of these nodes is shallow
abbrev pub AreShallow : List Node → Type 0
AreShallow nodes = (tree : Tree) → preorder tree ≡ nodes → IsShallow tree

-- the limits of a file, except the limit on its bytes
pub record AreWithin (b : Bound) (nodes : List Node) : Type 0 where
  pub bound : IsBound b
  pub count : length nodes ≤ MAX_PROOF_NODES
  pub prices : All HasShortPrices nodes
  pub depth : AreShallow nodes

-- the limits of a file
pub record FitsFile (v : ℕ) (b : Bound) (nodes : List Node) : Type 0 where
  pub parts : AreWithin b nodes
  pub bytes : length (proof_text v b nodes) ≤ MAX_BYTES

-- whether the claims of a node are of the version
abbrev pub IsNodeIn : ℕ → Node → Type 0
IsNodeIn v (node.Split g) = ⊤
IsNodeIn v (node.Leaf leaf) = IsLeafIn v leaf

-- the reason why nodes were not written: the first of the errors that applies, being out of memory last
abbrev pub Refuses : ℕ → Bound → List Node → WriteFault → Type 0
Refuses v b nodes NotATree = ¬ IsPreorder nodes
Refuses v b nodes OverLimit = IsPreorder nodes × ¬ FitsFile v b nodes
Refuses v b nodes NotInVersion = IsPreorder nodes × FitsFile v b nodes × ¬ All (IsNodeIn v) nodes
Refuses v b nodes OutOfMemory = IsPreorder nodes × FitsFile v b nodes × All (IsNodeIn v) nodes

-- whether the bytes are the text of the nodes, which are a tree within the limits and of the version
pub record Writes (v : ℕ) (b : Bound) (nodes : List Node) (bytes : List ℕ) : Type 0 where
  pub tree : IsPreorder nodes
  pub within : FitsFile v b nodes
  pub version : All (IsNodeIn v) nodes
  pub text : bytes ≡ proof_text v b nodes
