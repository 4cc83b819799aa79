-- The best timetable of a search, and what a better one preserves.
use Rattle.std.specs.Prelude.{◌≡◌, List, Option, IfSome, option_map}
use Rattle.tt_instance.specs.Problem.{Problem}
use Rattle.tt_instance.specs.declared.cell.Cell.{Cell}
use Rattle.tt_rules.specs.Score.{IsFeasible, cost}
use Rattle.tt_path.specs.Facts.{Fits}
use Rattle.tt_path.specs.declared.facts.Fact.{Fact}
use Rattle.tt_branch.specs.declared.best.Best.{Best}
use Rattle.tt_branch.specs.declared.tree_node.TreeNode.{TreeNode}
use Rattle.tt_branch.specs.declared.links.Link.{Link}
use Rattle.tt_branch.specs.Inner.Growing.{IsGrown}
use Rattle.tt_branch.specs.Inner.Links.{IsRooted}
use Rattle.tt_branch.specs.Outcomes.{IsNoDearer}

-- The timetable breaks no hard rule, and the cost stored is its cost.
pub record IsCosted (p : Problem) (b : Best) : Type 0 where
  pub feasible : IsFeasible p b.table
  pub cost : b.cost ≡ cost p b.table

-- The best timetable so far, if there is one, breaks no hard rule, and the cost stored is its cost.
abbrev pub IsBestSoFar : Problem → Option Best → Type 0
IsBestSoFar p best = IfSome best (IsCosted p)

-- The best timetable so far, if there is one, fits the root.
abbrev pub FitsRoot : Problem → List Fact → Option Best → Type 0
FitsRoot p root best = IfSome best (λ b. Fits p b.table root)

-- The best timetable so far without its cost, if there is one.
abbrev pub table_of : Option Best → Option (List Cell)
table_of best = option_map (λ b. b.table) best

-- Everything that was known about the nodes for the old best timetable is true for the new one, and the new one is at most as expensive. If the old
-- one fits a root above the path, the new one does, too.
pub record Advances (p : Problem) (path : List Fact) (old new : Option Best) : Type 0 where
  pub kept : IsBestSoFar p new
  pub grown : (root : List Fact) (links : List Link) (tree_nodes : List TreeNode) → IsGrown p root (table_of old) links tree_nodes
      → IsGrown p root (table_of new) links tree_nodes
  pub no_dearer : (t : List Cell) → IsNoDearer p (table_of old) t → IsNoDearer p (table_of new) t
  pub fits : (root : List Fact) → IsRooted root path → FitsRoot p root old → FitsRoot p root new
