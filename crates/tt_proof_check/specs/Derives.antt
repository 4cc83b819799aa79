-- The bound that a tree derives, and its meaning.
use Rattle.std.specs.Prelude.{◌≡◌, ◌≤◌, List, length}
use Rattle.tt_instance.specs.Problem.{Problem}
use Rattle.tt_instance.specs.declared.cell.Cell.{Cell}
use Rattle.tt_rules.specs.Score.{IsFeasible, cost}
use Rattle.tt_path.specs.Facts.{Fits}
use Rattle.tt_path.specs.declared.facts.Fact.{Fact}
use Rattle.tt_path.specs.declared.path.TheConstants.{MAX_FACTS}
use Rattle.tt_leaf_rules.specs.Bounds.{Respects}
use Rattle.tt_leaf_rules.specs.Leaves.{IsRight}
use Rattle.tt_leaf.specs.declared.leaf.Bound.{Bound}
use Rattle.tt_proof_read.specs.Trees.{Tree, AllLeaves, preorder}
use Rattle.tt_proof_read.specs.declared.node.Node.{Node}

-- whether each leaf is right on its path
abbrev pub Derives : Problem → Bound → List Fact → Tree → Type 0
Derives p b path tree = AllLeaves (λ facts leaf. IsRight p facts b leaf) path tree

-- whether each feasible timetable that fits the path respects the bound
abbrev pub HoldsOn : Problem → Bound → List Fact → Type 0
HoldsOn p b path = (t : List Cell) → IsFeasible p t → Fits p t path → Respects b (cost p t)

-- whether each feasible timetable respects the bound
abbrev pub HoldsOfAll : Problem → Bound → Type 0
HoldsOfAll p b = (t : List Cell) → IsFeasible p t → Respects b (cost p t)

-- whether each leaf has at most 65,536 facts on its path, those of the root included
abbrev pub IsShallowOn : List Fact → Tree → Type 0
IsShallowOn root tree = AllLeaves (λ path _. length path ≤ MAX_FACTS) root tree

-- whether the nodes are those of a tree that, with these facts at its root, is not too deep and derives the bound
abbrev pub Proves : Problem → List Fact → Bound → List Node → Type 0
Proves p root b nodes = (tree : Tree) × (preorder tree ≡ nodes) × IsShallowOn root tree × Derives p b root tree
