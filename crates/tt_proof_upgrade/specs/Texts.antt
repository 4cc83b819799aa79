-- Texts that are read as a whole before anything is checked.
use Rattle.std.specs.Prelude.{◌≡◌, ℕ, ◌≤◌, ◌⊎◌, Bool, true, List, ◌∷◌, ◌++◌, length, All, Option, Err}
use Rattle.tt_text.specs.Feeds.{Stream}
use Rattle.tt_instance.specs.Problem.{Problem}
use Rattle.tt_leaf.specs.declared.leaf.Bound.{Bound}
use Rattle.tt_proof_read.specs.Faults.{read_failed}
use Rattle.tt_proof_read.specs.Reading.{header_at, node_at, end_at}
use Rattle.tt_proof_read.specs.Reads.{ReadsNodes, Reads}
use Rattle.tt_proof_read.specs.Spelling.{IsNode}
use Rattle.tt_proof_read.specs.Trees.{Tree, preorder, IsPreorder}
use Rattle.tt_proof_read.specs.declared.fault.TextFault.{TextFault}
use Rattle.tt_proof_read.specs.declared.format.TheConstants.{MAX_PROOF_NODES}
use Rattle.tt_proof_read.specs.declared.node.Node.{Node}
use Rattle.tt_proof_read.specs.declared.sizes.Sizes.{Sizes}
use Rattle.tt_proof_check.specs.FailedReads.{HoldsOfGiven}
use Rattle.tt_proof_check.specs.Streams.{sizes_of, HasHeader}

-- The text is a proof of this version with this bound, and these are the nodes of its tree in preorder.
pub record IsRead (p : Problem) (s : Stream) (v : ℕ) (b : Bound) (nodes : List Node) : Type 0 where
  pub tree : Tree
  pub nodes_are : preorder tree ≡ nodes
  pub reads : Reads (sizes_of p) s v b tree

-- The nodes are one tree, of at most 16,777,216 nodes; the numbers of each are in the range of the instance, and each belongs to the version.
pub record AreNodesOf (p : Problem) (v : ℕ) (nodes : List Node) : Type 0 where
  pub tree : IsPreorder nodes
  pub at_most : length nodes ≤ MAX_PROOF_NODES
  pub each : All (IsNode p v) nodes

-- The nodes are one tree, and if the bytes are known, the nodes were read from the stream.
pub record IsCollected (sizes : Sizes) (v : ℕ) (known : Bool) (s after : Stream) (nodes : List Node) : Type 0 where
  pub tree : IsPreorder nodes
  pub reads : known ≡ true → ReadsNodes sizes v 0 s nodes after

-- Some tree continues the nodes that have been read, and the text of the next node fails.
pub record NodeTextFails (sizes : Sizes) (v : ℕ) (s : Stream) (f : TextFault) : Type 0 where
  pub nodes : List Node
  pub rest : Stream
  pub reads : ReadsNodes sizes v 0 s nodes rest
  pub tree : Tree
  pub next : Node
  pub more : List Node
  pub begins : preorder tree ≡ nodes ++ next ∷ more
  pub fails : node_at sizes v (length nodes) rest ≡ Err f

-- The tree is complete, and the text of the end fails.
pub record EndTextFails (p : Problem) (v : ℕ) (s : Stream) (f : TextFault) : Type 0 where
  pub tree : Tree
  pub rest : Stream
  pub reads : ReadsNodes (sizes_of p) v 0 s (preorder tree) rest
  pub fails : end_at rest ≡ Err f

-- The first fault of the text.
abbrev pub IsTextFault : Problem → Stream → TextFault → Type 0
IsTextFault p s f = (header_at s ≡ Err f) ⊎ HasHeader s (λ v b rest. NodeTextFails (sizes_of p) v rest f ⊎ EndTextFails p v rest f)

-- -- what is known after a failed read

-- All of the stream has been read, up to the failure at its end, which is its first fault.
abbrev pub TextIsCutOff : Problem → Stream → Type 0
TextIsCutOff p s = IsTextFault p s read_failed

-- Everything in the bytes that the source gave has been read, and nothing of it was checked.
abbrev pub IsReadUpToFailedRead : Problem → List ℕ → Option (List ℕ) → Type 0
IsReadUpToFailedRead p bytes left = HoldsOfGiven bytes left (TextIsCutOff p)
