-- A visitor that visits nodes in turn.
use Rattle.std.specs.Prelude.{◌≡◌, ℕ, ◌+◌, List, [], ◌∷◌, Option, Some, ⊤}
use Rattle.tt_instance.specs.Problem.{Problem}
use Rattle.tt_path.specs.declared.facts.Fact.{Fact}
use Rattle.tt_leaf.specs.declared.leaf.Bound.{Bound}
use Rattle.tt_proof_read.specs.Spelling.{SpellsProof}
use Rattle.tt_proof_read.specs.Trees.{Tree, preorder}
use Rattle.tt_proof_read.specs.declared.node.Node.{Node}
use Rattle.tt_proof_check.specs.Derives.{Derives, IsShallowOn}

-- starting in the old state, it has visited these nodes, the first with the number i and each further node with the next number, and is in
-- the new state
abbrev pub Visited : {X : Type 0} → (X → ℕ → Node → X → Type 0) → ℕ → X → X → List Node → Type 0
Visited visits i old new [] = new ≡ old
Visited {X} visits i old new (n ∷ ns) = (mid : X) × visits old i n mid × Visited visits (i + 1) mid new ns

-- the condition of a caller that needs no information about the visited nodes
abbrev pub Unvisited : List Node → Type 0
Unvisited nodes = ⊤

-- With these facts at its root, a tree is not too deep and derives the bound; the bytes spell it if they are known, and H holds for its nodes.
pub record IsVisitedProof (p : Problem) (root : List Fact) (remaining : Option (List ℕ)) (H : List Node → Type 0) (b : Bound) : Type 0 where
  pub version : ℕ
  pub tree : Tree
  pub spelled : (bytes : List ℕ) → remaining ≡ Some bytes → SpellsProof p bytes version b tree
  pub shallow : IsShallowOn root tree
  pub derives : Derives p b root tree
  pub visited : H (preorder tree)
