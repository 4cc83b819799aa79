-- Nodes of the tree that can be written as nodes of a proof.
use Rattle.std.specs.Prelude.{◌≡◌, ℕ, ◌≤◌, Bool, true, List, ◌++◌, length, reverse, Option, ⊤}
use Rattle.tt_path.specs.Live.{least}
use Rattle.tt_instance.specs.Problem.{Problem}
use Rattle.tt_path.specs.declared.facts.Fact.{Fact}
use Rattle.tt_leaf_rules.specs.Outcomes.{IsClaimedOnce}
use Rattle.tt_proof_read.specs.declared.node.Node.{Node}
use Rattle.tt_proof_read.specs.declared.node.Node.TheVariants as node
use Rattle.tt_proof_check.specs.Nodes.{IsNodeOf}
use Rattle.tt_branch.specs.declared.tree_node.TreeNode.{TreeNode}
use Rattle.tt_branch.specs.declared.links.Link.{Link}
use Rattle.tt_branch.specs.Inner.Growing.{node_at, nodes_of, worths_of}
use Rattle.tt_branch.specs.Inner.Links.{path_at}
use Rattle.tt_path.specs.declared.path.TheConstants.{MAX_FACTS}

-- The node exists, and its facts fit on a path, those of the root included.
pub record IsReached (root : List Fact) (links : List Link) (place : ℕ) : Type 0 where
  pub within : place ≤ length links
  pub depth : length (path_at root links place) ≤ MAX_FACTS

-- A leaf claims no target twice.
abbrev pub IsOnceNode : Node → Type 0
IsOnceNode (node.Split g) = ⊤
IsOnceNode (node.Leaf leaf) = IsClaimedOnce leaf

-- The node can be written in a proof: its facts fit on a path, its numbers are in the range of the instance, no claim gives a course or a room
-- two prices, and no target is claimed twice.
pub record IsWritable (p : Problem) (root : List Fact) (links : List Link) (e : TreeNode) : Type 0 where
  pub reached : IsReached root links e.link
  pub numbers : IsNodeOf p (node_at p root links e)
  pub once : IsOnceNode (node_at p root links e)

-- The nodes of the tree after those left have been written, the last one first.
pub record IsTaken (p : Problem) (root : List Fact) (links : List Link) (valued : Bool) (all left : List TreeNode) (nodes : List Node) (lowest : Option ℕ) : Type 0 where
  pub done : List TreeNode
  pub split : all ≡ left ++ done
  pub written : nodes ≡ reverse (nodes_of p root links done)
  pub lowest_is : valued ≡ true → lowest ≡ least (worths_of p root links done)
