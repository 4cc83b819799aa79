-- A tree that grows: its nodes in preorder, each with a mark and its place among the links.
use Rattle.std.specs.Prelude.{◌≡◌, ℕ, ◌≤◌, Bool, true, false, List, length, map, Option, Some, count_by, slice_get, ⊤}
use Rattle.std.specs.List.{AllZip, filter_map}
use Rattle.tt_instance.specs.Problem.{Problem}
use Rattle.tt_instance.specs.declared.cell.Cell.{Cell}
use Rattle.tt_path.specs.declared.facts.Fact.{Fact}
use Rattle.tt_proof_read.specs.Trees.{Tree, OnPath, on_paths}
use Rattle.tt_proof_read.specs.declared.node.Node.{Node}
use Rattle.tt_proof_read.specs.declared.node.Node.TheVariants as node
use Rattle.tt_leaf_find.specs.Best.{best_leaf}
use Rattle.tt_leaf_find.specs.Found.{Closes, ArePatterns}
use Rattle.tt_branch.specs.declared.tree_node.NodeState.{NodeState}
use Rattle.tt_branch.specs.declared.tree_node.NodeState.TheVariants.{Split, Closed, Opened, Unopened}
use Rattle.tt_branch.specs.declared.tree_node.TreeNode.{TreeNode}
use Rattle.tt_branch.specs.declared.links.Link.{Link}
use Rattle.tt_branch.specs.Inner.Links.{path_at}
use Rattle.tt_branch.specs.Outcomes.{final_bound}
use Rattle.tt_branch.specs.Proofs.{IsSplitOn, node_worth}

-- The node of the tree for a mark; an open node has the leaf of the best claims.
abbrev pub node_of : Problem → List Fact → NodeState → Node
node_of p path (Split g) = node.Split g
node_of p path (Closed leaf) = node.Leaf leaf
node_of p path (Opened g) = node.Leaf (best_leaf p path)
node_of p path Unopened = node.Leaf (best_leaf p path)

-- What is known about a node by its mark.
abbrev pub IsKnown : Problem → Option (List Cell) → List Fact → NodeState → Type 0
IsKnown p best path (Split g) = IsSplitOn p path g
IsKnown p best path (Closed leaf) = Closes p path (final_bound p best) leaf
IsKnown p best path (Opened g) = IsSplitOn p path g
IsKnown p best path Unopened = ⊤

-- A node of a tree on its path, and the same node of the tree that grows.
pub record IsSameNode (p : Problem) (root : List Fact) (best : Option (List Cell)) (links : List Link) (x : OnPath) (e : TreeNode) : Type 0 where
  pub node : x.node ≡ node_of p x.path e.mark
  pub known : IsKnown p best x.path e.mark
  pub link : e.link ≤ length links
  pub path : path_at root links e.link ≡ x.path
  pub patterns : ArePatterns p x.path

-- The nodes are those of a tree below the root.
pub record IsGrown (p : Problem) (root : List Fact) (best : Option (List Cell)) (links : List Link) (tree_nodes : List TreeNode) : Type 0 where
  pub tree : Tree
  pub together : AllZip (IsSameNode p root best links) (on_paths root tree) tree_nodes

-- ---- marks

-- Whether a node with this mark was opened.
abbrev pub was_opened : NodeState → Bool
was_opened Unopened = false
was_opened _ = true

-- Whether a node with this mark is neither split nor closed.
abbrev pub is_open : NodeState → Bool
is_open (Opened g) = true
is_open Unopened = true
is_open _ = false

-- The mark is not that of a split.
abbrev pub IsSingle : NodeState → Type 0
IsSingle (Split g) = ⊥
IsSingle _ = ⊤

-- How many of the nodes were opened.
abbrev pub opened_in : List TreeNode → ℕ
opened_in tree_nodes = count_by (λ e. was_opened e.mark) tree_nodes

-- The node at the place is open.
abbrev pub IsOpenAt : List TreeNode → ℕ → Type 0
IsOpenAt tree_nodes k = (e : TreeNode) × (slice_get tree_nodes k ≡ Some e) × (is_open e.mark ≡ true)

-- The node at the place has the mark.
abbrev pub HasMark : List TreeNode → ℕ → NodeState → Type 0
HasMark tree_nodes k m = (e : TreeNode) × (slice_get tree_nodes k ≡ Some e) × (e.mark ≡ m)

-- -- the proof made of the tree

-- The node of the proof for a node of the tree.
abbrev pub node_at : Problem → List Fact → List Link → TreeNode → Node
node_at p root links e = node_of p (path_at root links e.link) e.mark

-- The value of a node of the tree, if it is a Cost leaf.
abbrev pub worth_at : Problem → List Fact → List Link → TreeNode → Option ℕ
worth_at p root links e = node_worth p (path_at root links e.link) (node_at p root links e)

-- The nodes of the proof for nodes of the tree, in their order.
abbrev pub nodes_of : Problem → List Fact → List Link → List TreeNode → List Node
nodes_of p root links tree_nodes = map (node_at p root links) tree_nodes

-- The values of the nodes of the tree that are Cost leaves, in their order.
abbrev pub worths_of : Problem → List Fact → List Link → List TreeNode → List ℕ
worths_of p root links tree_nodes = filter_map (worth_at p root links) tree_nodes
