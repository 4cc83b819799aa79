-- The meaning for the text of the results of a checker that reads node by node.
use Rattle.std.specs.Prelude.{◌≡◌, ℕ, ◌+◌, List, ◌∷◌, ◌++◌, length, take, All, Ok, Err, ◌⊎◌}
use Rattle.tt_text.specs.Feeds.{Stream, stream_from}
use Rattle.tt_text.specs.declared.feed.TheConstants.{MAX_BYTES}
use Rattle.tt_instance.specs.Problem.{Problem}
use Rattle.tt_path.specs.declared.facts.Fact.{Fact}
use Rattle.tt_leaf.specs.declared.leaf.Bound.{Bound}
use Rattle.tt_proof_read.specs.Reading.{header_at, node_at, end_at}
use Rattle.tt_proof_read.specs.Reads.{ReadsNodes}
use Rattle.tt_proof_read.specs.Spelling.{SpellsProof}
use Rattle.tt_proof_read.specs.Trees.{Tree, preorder, on_paths}
use Rattle.tt_proof_read.specs.declared.fault.TextFault.{TextFault}
use Rattle.tt_proof_read.specs.declared.node.Node.{Node}
use Rattle.tt_proof_read.specs.declared.sizes.Sizes.{Sizes}
use Rattle.tt_proof_check.specs.declared.fault.CheckFault.{CheckFault}
use Rattle.tt_proof_check.specs.declared.fault.CheckFault.TheVariants.{Text, Rule, TooDeep}
use Rattle.tt_proof_check.specs.Derives.{Derives, IsShallowOn}
use Rattle.tt_proof_check.specs.Explains.{Passes, FailsAt, IsDeepAt}

-- whether the bytes spell a tree that, with these facts at its root, derives the bound and is not too deep
abbrev pub IsProved : Problem → List Fact → List ℕ → Bound → Type 0
IsProved p root bytes b =
    (version : ℕ) × (tree : Tree) × SpellsProof p bytes version b tree × Derives p b root tree × IsShallowOn root tree

-- the stream that a feed gives for the bytes
abbrev pub stream_of : List ℕ → Stream
stream_of bytes = stream_from MAX_BYTES 0 bytes

-- the number of each kind of thing
abbrev pub sizes_of : Problem → Sizes
sizes_of p = record {
  courses = length p.courses;
  curricula = length p.curricula;
  rooms = length p.rooms;
  days = p.days;
  periods = p.periods;
}

-- ---- the nodes, after a header with this version and bound

-- some tree continues the nodes that have been read, each of which passes, and the text of the next node fails
pub record NodeFails (p : Problem) (root : List Fact) (v : ℕ) (b : Bound) (s : Stream) (f : TextFault) : Type 0 where
  pub nodes : List Node
  pub rest : Stream
  pub reads : ReadsNodes (sizes_of p) v 0 s nodes rest
  pub tree : Tree
  pub next : Node
  pub more : List Node
  pub begins : preorder tree ≡ nodes ++ next ∷ more
  pub passed : All (Passes p b) (take (length nodes) (on_paths root tree))
  pub fails : node_at (sizes_of p) v (length nodes) rest ≡ Err f

-- the nodes up to the one at i have been read, and some tree that begins with them has the property
pub record IsReadTo (p : Problem) (v : ℕ) (s : Stream) (i : ℕ) (P : Tree → Type 0) : Type 0 where
  pub nodes : List Node
  pub rest : Stream
  pub reads : ReadsNodes (sizes_of p) v 0 s nodes rest
  pub tree : Tree
  pub more : List Node
  pub begins : preorder tree ≡ nodes ++ more
  pub last : length nodes ≡ i + 1
  pub is : P tree

-- ---- the whole text

-- a header with some version and bound, after which P holds
abbrev pub HasHeader : Stream → (ℕ → Bound → Stream → Type 0) → Type 0
HasHeader s P = (v : ℕ) × (b : Bound) × (rest : Stream) × (header_at s ≡ Ok ((v, b), rest)) × P v b rest

-- the tree is whole and derives the bound, and the text of the end fails
pub record EndFails (p : Problem) (root : List Fact) (v : ℕ) (b : Bound) (s : Stream) (f : TextFault) : Type 0 where
  pub tree : Tree
  pub rest : Stream
  pub reads : ReadsNodes (sizes_of p) v 0 s (preorder tree) rest
  pub shallow : IsShallowOn root tree
  pub derives : Derives p b root tree
  pub fails : end_at rest ≡ Err f

-- the meaning of an error for a text for which a feed gives this stream, and for a tree with these facts at its root
abbrev pub IsProofFault : Problem → List Fact → Stream → CheckFault → Type 0
IsProofFault p root s (Text f) =
    (header_at s ≡ Err f) ⊎ HasHeader s (λ v b rest. NodeFails p root v b rest f ⊎ EndFails p root v b rest f)
IsProofFault p root s (Rule i f) = HasHeader s (λ v b rest. IsReadTo p v rest i (λ tree. FailsAt p root b tree i f))
IsProofFault p root s (TooDeep i) = HasHeader s (λ v b rest. IsReadTo p v rest i (λ tree. IsDeepAt p root b tree i))
