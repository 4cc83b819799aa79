-- The part of a proof that has been checked so far while it is read, after a header with this version and bound.
use Rattle.std.specs.Prelude.{◌≡◌, ℕ, Bool, true, List, Ok, Err}
use Rattle.tt_text.specs.Feeds.{Stream}
use Rattle.tt_instance.specs.Problem.{Problem}
use Rattle.tt_path.specs.declared.facts.Fact.{Fact}
use Rattle.tt_leaf.specs.declared.leaf.Bound.{Bound}
use Rattle.tt_proof_read.specs.Reading.{node_at}
use Rattle.tt_proof_read.specs.Reads.{ReadsNodes, Reads}
use Rattle.tt_proof_read.specs.Trees.{Tree, preorder}
use Rattle.tt_proof_read.specs.declared.node.Node.{Node}
use Rattle.tt_proof_read.specs.declared.sizes.Sizes.{Sizes}
use Rattle.tt_proof_check.specs.declared.fault.CheckFault.{CheckFault}
use Rattle.tt_proof_check.specs.declared.fault.CheckFault.TheVariants.{Text, Rule, TooDeep}
use Rattle.tt_proof_check.specs.Derives.{Derives, IsShallowOn}
use Rattle.tt_proof_check.specs.Streams.{sizes_of, NodeFails, IsReadTo}
use Rattle.tt_proof_check.specs.Explains.{FailsAt, IsDeepAt}

-- a tree was read whole, if the bytes are known, and derives the bound with these facts at its root; its nodes were visited
pub record CheckedPart (p : Problem) (root : List Fact) (v : ℕ) (b : Bound) (known : Bool) (H : List Node → Type 0) (s after : Stream) : Type 0 where
  pub tree : Tree
  pub reads : known ≡ true → ReadsNodes (sizes_of p) v 0 s (preorder tree) after
  pub shallow : IsShallowOn root tree
  pub derives : Derives p b root tree
  pub visited : H (preorder tree)

-- the meaning of an error of the nodes
abbrev pub ExplainsNodes : Problem → List Fact → ℕ → Bound → Stream → CheckFault → Type 0
ExplainsNodes p root v b s (Text f) = NodeFails p root v b s f
ExplainsNodes p root v b s (Rule i f) = IsReadTo p v s i (λ tree. FailsAt p root b tree i f)
ExplainsNodes p root v b s (TooDeep i) = IsReadTo p v s i (λ tree. IsDeepAt p root b tree i)

-- the child that is too deep was read, or its text fails
abbrev pub ExplainsChild : Sizes → ℕ → ℕ → Stream → ℕ → CheckFault → Type 0
ExplainsChild sizes v count s i (Text f) = node_at sizes v count s ≡ Err f
ExplainsChild sizes v count s i (Rule k f) = ⊥
ExplainsChild sizes v count s i (TooDeep k) = (k ≡ i) × (child : Node) × (after : Stream) × (node_at sizes v count s ≡ Ok (child, after))

-- a tree that derives the bound with these facts at its root and is spelled by the text, if the text is known; its nodes were visited
pub record Proved (p : Problem) (root : List Fact) (known : Bool) (H : List Node → Type 0) (s : Stream) (b : Bound) : Type 0 where
  pub version : ℕ
  pub tree : Tree
  pub reads : known ≡ true → Reads (sizes_of p) s version b tree
  pub shallow : IsShallowOn root tree
  pub derives : Derives p b root tree
  pub visited : H (preorder tree)
