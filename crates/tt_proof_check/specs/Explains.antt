-- The meaning of an error for a list of nodes.
use Rattle.std.specs.Prelude.{◌≡◌, ℕ, ◌<◌, ◌≤◌, List, length, take, All, Some, slice_get, ⊤}
use Rattle.tt_instance.specs.Problem.{Problem}
use Rattle.tt_path.specs.declared.facts.Fact.{Fact}
use Rattle.tt_leaf_rules.specs.Faults.{fault_of}
use Rattle.tt_leaf_rules.specs.Leaves.{IsRight}
use Rattle.tt_leaf.specs.declared.leaf.Bound.{Bound}
use Rattle.tt_leaf.specs.declared.leaf.Leaf.{Leaf}
use Rattle.tt_leaf_rules.specs.declared.fault.RuleFault.{RuleFault}
use Rattle.tt_proof_read.specs.Trees.{Tree, preorder, OnPath, on_paths, IsPreorder}
use Rattle.tt_proof_read.specs.declared.node.Node.{Node}
use Rattle.tt_proof_read.specs.declared.node.Node.TheVariants as node
use Rattle.tt_proof_check.specs.declared.fault.NodesFault.{NodesFault}
use Rattle.tt_proof_check.specs.declared.fault.NodesFault.TheVariants.{NotATree, Rule, TooDeep}
use Rattle.tt_path.specs.declared.path.TheConstants.{MAX_FACTS}

-- whether a node is right on its path: a leaf has to be, a split always is
abbrev pub IsRightOn : Problem → Bound → List Fact → Node → Type 0
IsRightOn p b path (node.Split g) = ⊤
IsRightOn p b path (node.Leaf leaf) = IsRight p path b leaf

-- whether at most 65,536 facts are on the path of the node, and a leaf is right
abbrev pub Passes : Problem → Bound → OnPath → Type 0
Passes p b x = (length x.path ≤ MAX_FACTS) × IsRightOn p b x.path x.node

-- the node at i is the first that does not pass: a leaf that is not too deep, and f is its first error on its path
pub record FailsAt (p : Problem) (root : List Fact) (b : Bound) (tree : Tree) (i : ℕ) (f : RuleFault) : Type 0 where
  pub path : List Fact
  pub leaf : Leaf
  pub found : slice_get (on_paths root tree) i ≡ Some (record { path = path; node = node.Leaf leaf })
  pub within : length path ≤ MAX_FACTS
  pub fault : fault_of p path b leaf ≡ Some f
  pub before : All (Passes p b) (take i (on_paths root tree))

-- the node at i is the first that does not pass: more than 65,536 facts are on its path
pub record IsDeepAt (p : Problem) (root : List Fact) (b : Bound) (tree : Tree) (i : ℕ) : Type 0 where
  pub path : List Fact
  pub node : Node
  pub found : slice_get (on_paths root tree) i ≡ Some (record { path = path; node = node })
  pub deep : MAX_FACTS < length path
  pub before : All (Passes p b) (take i (on_paths root tree))

-- As the fault says, the nodes are no tree, or the first that does not pass has this number.
abbrev pub Explains : Problem → List Fact → Bound → List Node → NodesFault → Type 0
Explains p root b nodes NotATree = ¬ (IsPreorder nodes)
Explains p root b nodes (Rule i f) = (tree : Tree) × (preorder tree ≡ nodes) × FailsAt p root b tree i f
Explains p root b nodes (TooDeep i) = (tree : Tree) × (preorder tree ≡ nodes) × IsDeepAt p root b tree i
