-- The properties of the proof that a search returns.
use Rattle.std.specs.Prelude.{◌≡◌, ℕ, ◌<◌, Bool, true, false, List, [], ◌∷◌, Option, Some, None, length, All, Contains, ⊤}
use Rattle.std.specs.List.{filter_map}
use Rattle.tt_instance.specs.Problem.{Problem}
use Rattle.tt_instance.specs.declared.cell.Cell.{Cell}
use Rattle.tt_rules.specs.Score.{cost}
use Rattle.tt_path.specs.Facts.{IsPattern, has_fact}
use Rattle.tt_path.specs.declared.facts.Pattern.{Pattern}
use Rattle.tt_path.specs.declared.facts.Fact.{Fact}
use Rattle.tt_leaf_rules.specs.Claims.{total_of}
use Rattle.tt_leaf_rules.specs.Leaves.{IsRight}
use Rattle.tt_leaf.specs.declared.leaf.Bound.{Bound}
use Rattle.tt_leaf.specs.declared.leaf.Bound.TheVariants.{AtLeast, Nothing}
use Rattle.tt_leaf.specs.declared.leaf.Leaf.{Leaf}
use Rattle.tt_leaf.specs.declared.leaf.Leaf.TheVariants.{Empty, Many, Clique, Slots, Cost}
use Rattle.tt_proof_read.specs.Limits.{IsShortLeaf}
use Rattle.tt_proof_read.specs.Trees.{Tree, preorder, OnPath, on_paths}
use Rattle.tt_proof_read.specs.declared.node.Node.{Node}
use Rattle.tt_proof_read.specs.declared.node.Node.TheVariants as node
use Rattle.tt_proof_write.specs.Within.{AreWithin}
use Rattle.tt_proof_check.specs.Derives.{Derives}
use Rattle.tt_proof_check.specs.Nodes.{IsNodeOf}
use Rattle.tt_leaf_find.specs.Best.{best_leaf}
use Rattle.tt_branch_split.specs.Choice.{Aims}

-- ---- splits

-- No Empty leaf of a yes-fact, no Many leaf and no Clique leaf of one course is right on the path; for these leaves the bound doesn't matter.
pub record IsUnclosed (p : Problem) (path : List Fact) : Type 0 where
  pub empty : (f : Fact) → Contains path f → f.holds ≡ true → ¬ IsRight p path Nothing (Empty f.pattern)
  pub many : (c : ℕ) → c < length p.courses → ¬ IsRight p path Nothing (Many c)
  pub clique : (c : ℕ) → c < length p.courses → ¬ IsRight p path Nothing (Clique (c ∷ []))

-- The pattern is new on the path and aims at a free cell, and the node was not closed.
pub record IsSplitOn (p : Problem) (path : List Fact) (g : Pattern) : Type 0 where
  pub numbers : IsPattern p g
  pub not_yes : has_fact path g true ≡ false
  pub not_no : has_fact path g false ≡ false
  pub unclosed : IsUnclosed p path
  pub aims : Aims p path g

-- If the node is a split, its pattern is new on its path and aims at a free cell, and the node was not closed.
abbrev pub SplitsWell : Problem → OnPath → Type 0
SplitsWell p x = (g : Pattern) → x.node ≡ node.Split g → IsSplitOn p x.path g

-- The node is a split, or a leaf in which no Clique or Slots repeats a course and no price is above 1,000,000.
abbrev pub IsShortNode : Node → Type 0
IsShortNode (node.Split g) = ⊤
IsShortNode (node.Leaf leaf) = IsShortLeaf leaf

-- A proof of the bound on the root: its numbers are in the range of the instance, and the only limit of a file that it can exceed is that of its
-- bytes.
pub record IsSearched (p : Problem) (root : List Fact) (b : Bound) (tree : Tree) (nodes : List Node) : Type 0 where
  pub spelled : preorder tree ≡ nodes
  pub derives : Derives p b root tree
  pub splits : All (SplitsWell p) (on_paths root tree)
  pub numbers : All (IsNodeOf p) nodes
  pub short : All IsShortNode nodes
  pub within : AreWithin b nodes

-- ---- cost leaves

-- The value of a Cost leaf on its path.
abbrev pub leaf_worth : Problem → List Fact → Leaf → Option ℕ
leaf_worth p path (Empty g) = None
leaf_worth p path (Many c) = None
leaf_worth p path (Clique cs) = None
leaf_worth p path (Slots cs) = None
leaf_worth p path (Cost claims) = Some (total_of p path claims)

-- The value of a node on its path, if it is a Cost leaf.
abbrev pub node_worth : Problem → List Fact → Node → Option ℕ
node_worth p path (node.Split g) = None
node_worth p path (node.Leaf leaf) = leaf_worth p path leaf

-- The values of the Cost leaves, in preorder.
abbrev pub worths : Problem → List OnPath → List ℕ
worths p xs = filter_map (λ x. node_worth p x.path x.node) xs

-- The number is below the cost of the best timetable; if none was found, this holds for any number.
abbrev pub IsCheaper : Problem → Option (List Cell) → ℕ → Type 0
IsCheaper p None n = ⊤
IsCheaper p (Some t) n = n < cost p t

-- A Cost leaf with a value below the cost of the best timetable is the leaf of the best claims.
abbrev pub IsGreedy : Problem → Option (List Cell) → OnPath → Type 0
IsGreedy p best x = (n : ℕ) → node_worth p x.path x.node ≡ Some n → IsCheaper p best n → x.node ≡ node.Leaf (best_leaf p x.path)

-- The bound proved in the end: the final bound if the search is finished, otherwise the least value.
abbrev pub shown_bound : Bound → Option ℕ → Bool → Bound
shown_bound b least true = b
shown_bound b None false = AtLeast 0
shown_bound b (Some n) false = AtLeast n
