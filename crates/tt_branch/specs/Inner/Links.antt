-- Paths by links to the parent: each fact comes after the facts of its parent.
use Rattle.std.specs.Prelude.{◌≡◌, ℕ, zero, suc, ◌≤◌, Bool, true, false, List, [], ◌∷◌, ◌++◌, Some, None, slice_get}
use Rattle.tt_path.specs.declared.facts.Fact.{Fact}
use Rattle.tt_path.specs.declared.facts.Pattern.{Pattern}
use Rattle.tt_branch.specs.declared.links.Link.{Link}

-- The facts of the node at a place that are not the root's. The place is 0 for the root, and the number of its link plus 1 for another node. The
-- first number limits how many links are followed.
abbrev pub chain : ℕ → List Link → ℕ → List Fact
chain zero links at = []
chain (suc n) links zero = []
chain (suc n) links (suc i) = elim (slice_get links i) [ None ↦ [] | Some l ↦ chain n links l.parent ++ l.fact ∷ [] ]

-- The facts of the links to the node at a place, the first below the root before the others. At most as many links are followed as the number of the
-- place.
abbrev pub facts_at : List Link → ℕ → List Fact
facts_at links at = chain at links at

-- The facts of the node at a place: those of the root, and then those of the links to the node.
abbrev pub path_at : List Fact → List Link → ℕ → List Fact
path_at root links at = root ++ facts_at links at

-- The path is the root's or that of a node below it: it begins with the facts of the root.
pub record IsRooted (root path : List Fact) : Type 0 where
  pub below : List Fact
  pub whole : path ≡ root ++ below

-- A parent comes before its children.
abbrev pub AreLinks : List Link → Type 0
AreLinks links = (i : ℕ) (l : Link) → slice_get links i ≡ Some l → l.parent ≤ i

-- The link to a parent at a place, with the yes-fact or the no-fact of a pattern.
abbrev pub link_of : ℕ → Pattern → Bool → Link
link_of at g holds = record { parent = at; fact = record { pattern = g; holds = holds } }

-- The links with two more nodes, below the node at a place: under the yes-fact of a pattern and under its no-fact.
abbrev pub divided_links : List Link → ℕ → Pattern → List Link
divided_links links at g = (links ++ link_of at g true ∷ []) ++ link_of at g false ∷ []
