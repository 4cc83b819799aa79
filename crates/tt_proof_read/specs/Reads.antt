-- A proof that a stream gives node by node.
use Rattle.std.specs.Prelude.{◌≡◌, ℕ, zero, suc, ◌+◌, List, [], ◌∷◌, Option, Some, None, Ok}
use Rattle.tt_leaf.specs.declared.leaf.Bound.{Bound}
use Rattle.tt_text.specs.Feeds.{Stream, stream_from}
use Rattle.tt_text.specs.declared.feed.TheConstants.{MAX_BYTES}
use Rattle.tt_proof_read.specs.Reading.{header_at, node_at, end_at}
use Rattle.tt_proof_read.specs.Trees.{Tree, preorder}
use Rattle.tt_proof_read.specs.declared.node.Node.{Node}
use Rattle.tt_proof_read.specs.declared.node.Node.TheVariants.{Split, Leaf}
use Rattle.tt_proof_read.specs.declared.sizes.Sizes.{Sizes}

-- The stream continues with these nodes, and `after` is the rest. `count` nodes come before.
abbrev pub ReadsNodes : Sizes → ℕ → ℕ → Stream → List Node → Stream → Type 0
ReadsNodes sizes version count s [] after = s ≡ after
ReadsNodes sizes version count s (node ∷ nodes) after =
    (mid : Stream) × (node_at sizes version count s ≡ Ok (node, mid)) × ReadsNodes sizes version (count + 1) mid nodes after

-- The stream is a header, the nodes of a tree and the end.
pub record Reads (sizes : Sizes) (s : Stream) (version : ℕ) (bound : Bound) (tree : Tree) : Type 0 where
  pub headed : Stream
  pub noded : Stream
  pub ended : Stream
  pub header : header_at s ≡ Ok ((version, bound), headed)
  pub nodes : ReadsNodes sizes version 0 headed (preorder tree) noded
  pub finish : end_at noded ≡ Ok ended

-- The stream that a feed gives for some bytes.
abbrev pub stream_of_bytes : List ℕ → Stream
stream_of_bytes bytes = stream_from MAX_BYTES 0 bytes

-- How many places of a tree are open after nodes, each of which fills one: a leaf opens none, a split two. `None` if no place is open for a node.
abbrev pub open_after : ℕ → List Node → Option ℕ
open_after places [] = Some places
open_after zero (node ∷ nodes) = None
open_after (suc places) (Leaf leaf ∷ nodes) = open_after places nodes
open_after (suc places) (Split g ∷ nodes) = open_after (suc (suc places)) nodes
