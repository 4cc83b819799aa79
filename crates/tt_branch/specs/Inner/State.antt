-- The state of a search.
use Rattle.std.specs.Prelude.{◌≡◌, ℕ, ◌+◌, ◌*◌, ◌≤◌, Bool, true, false, List, ◌∷◌, ◌++◌, length}
use Rattle.std.specs.List.{list_any}
use Rattle.tt_instance.specs.Problem.{Problem}
use Rattle.tt_path.specs.declared.facts.Fact.{Fact}
use Rattle.tt_path.specs.declared.facts.Pattern.{Pattern}
use Rattle.tt_branch.specs.declared.tree_node.NodeState.TheVariants.{Opened, Unopened}
use Rattle.tt_branch.specs.declared.tree_node.TreeNode.{TreeNode}
use Rattle.tt_branch.specs.declared.search.Search.{Search}
use Rattle.tt_branch.specs.Inner.Growing.{IsGrown, HasMark, is_open, opened_in}
use Rattle.tt_branch.specs.Inner.BestSoFar.{IsBestSoFar, FitsRoot, table_of}
use Rattle.tt_branch.specs.Inner.Links.{AreLinks, divided_links}
use Rattle.tt_branch.specs.Inner.Steps.{IsSplitInto}

-- The best timetable breaks no hard rule, fits the root and has the cost stored, the links lead to parents, and the nodes are those of a tree below
-- the root.
pub record IsUnderWay (p : Problem) (root : List Fact) (s : Search) : Type 0 where
  pub kept : IsBestSoFar p s.best
  pub fits : FitsRoot p root s.best
  pub links : AreLinks s.links.items
  pub grown : IsGrown p root (table_of s.best) s.links.items s.tree_nodes.items

-- The opened node at the place is split: its two children follow it.
pub record IsSplitAt (place : ℕ) (g : Pattern) (old new : Search) : Type 0 where
  pub before : List TreeNode
  pub after : List TreeNode
  pub was : TreeNode
  pub divided : TreeNode
  pub first : TreeNode
  pub second : TreeNode
  pub old_tree_nodes : old.tree_nodes.items ≡ before ++ was ∷ after
  pub place_is : length before ≡ place
  pub opened : was.mark ≡ Opened g
  pub division : IsSplitInto old.links.items was g divided first second
  pub tree_nodes : new.tree_nodes.items ≡ before ++ divided ∷ first ∷ second ∷ after
  pub links : new.links.items ≡ divided_links old.links.items was.link g
  pub best : new.best ≡ old.best

-- The open node at the place waits, or it was split and the child at the place `next` waits; nothing else has changed.
pub record MakesWait (place : ℕ) (old : Search) (next : ℕ) (new : Search) : Type 0 where
  pub under_way : (p : Problem) (root : List Fact) → IsUnderWay p root old → IsUnderWay p root new
  pub waiting : HasMark new.tree_nodes.items next Unopened
  pub opened : opened_in new.tree_nodes.items ≡ opened_in old.tree_nodes.items
  pub many : length new.tree_nodes.items ≤ length old.tree_nodes.items + 2
  pub best : new.best ≡ old.best

-- No node is open, and at most `limit` nodes were made; or some node is open, at least `limit` nodes were made, and fewer than `2 * limit`.
abbrev pub EndsAt : ℕ → List TreeNode → Bool → Type 0
EndsAt limit tree_nodes true = (list_any (λ e. is_open e.mark) tree_nodes ≡ false) × (length tree_nodes ≤ limit)
EndsAt limit tree_nodes false = (list_any (λ e. is_open e.mark) tree_nodes ≡ true) × (limit ≤ length tree_nodes) × (length tree_nodes + 1 ≤ 2 * limit)
