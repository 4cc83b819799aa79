-- Trees of splits and leaves, and the nodes of a tree with their paths.
use Rattle.std.specs.Prelude.{◌≡◌, ◌≤◌, Bool, true, false, List, [], ◌∷◌, ◌++◌, length}
use Rattle.tt_path.specs.declared.facts.Pattern.{Pattern}
use Rattle.tt_path.specs.declared.facts.Fact.{Fact}
use Rattle.tt_path.specs.declared.path.TheConstants.{MAX_FACTS}
use Rattle.tt_leaf.specs.declared.leaf.Leaf.{Leaf}
use Rattle.tt_proof_read.specs.declared.node.Node.{Node}
use Rattle.tt_proof_read.specs.declared.node.Node.TheVariants as node

-- A leaf, or a split with its two children.
pub data Tree : Type 0 where
  Tip : Leaf → Tree
  Fork : Pattern → Tree → Tree → Tree

-- The path with another fact.
abbrev pub with_fact : List Fact → Pattern → Bool → List Fact
with_fact path g holds = path ++ record { pattern = g; holds = holds } ∷ []

-- A property of each leaf on its path: the facts of the splits above it, the first child under "yes", the second under "no".
abbrev pub AllLeaves : (List Fact → Leaf → Type 0) → List Fact → Tree → Type 0
AllLeaves P path (Tip leaf) = P path leaf
AllLeaves P path (Fork g first second) =
    AllLeaves P (with_fact path g true) first × AllLeaves P (with_fact path g false) second

-- No leaf is below more than 65,536 splits.
abbrev pub IsShallow : Tree → Type 0
IsShallow tree = AllLeaves (λ path _. length path ≤ MAX_FACTS) [] tree

-- Each node before its children, the first child before the second.
abbrev pub preorder : Tree → List Node
preorder (Tip leaf) = node.Leaf leaf ∷ []
preorder (Fork g first second) = node.Split g ∷ (preorder first ++ preorder second)

-- The nodes are those of one tree, in preorder.
abbrev pub IsPreorder : List Node → Type 0
IsPreorder nodes = (tree : Tree) × (preorder tree ≡ nodes)

-- A node, and the facts of the splits above it.
pub record OnPath : Type 0 where
  pub path : List Fact
  pub node : Node

-- The nodes in preorder, each on its path.
abbrev pub on_paths : List Fact → Tree → List OnPath
on_paths path (Tip leaf) = record { path = path; node = node.Leaf leaf } ∷ []
on_paths path (Fork g first second) =
    record { path = path; node = node.Split g } ∷ (on_paths (with_fact path g true) first ++ on_paths (with_fact path g false) second)
