-- How reading the bytes of a proof fails, and the token at which it fails (what that says of other bytes is said by `BeginsAs` of `tt_instance`).
use Rattle.std.specs.Prelude.{◌≡◌, ◌⊎◌, ℕ, zero, suc, ◌+◌, List, length, Option, Some, None, Ok, Err}
use Rattle.tt_text.specs.Feeds.{Stream}
use Rattle.tt_text.specs.declared.feed.FeedFault.TheVariants as feed
use Rattle.tt_leaf.specs.declared.leaf.Bound.{Bound}
use Rattle.tt_proof_read.specs.Reading.{header_at, node_at, end_at}
use Rattle.tt_proof_read.specs.Reads.{ReadsNodes, open_after}
use Rattle.tt_proof_read.specs.declared.fault.TextFault.{TextFault}
use Rattle.tt_proof_read.specs.declared.fault.TextFault.TheVariants as fault
use Rattle.tt_proof_read.specs.declared.node.Node.{Node}
use Rattle.tt_proof_read.specs.declared.sizes.Sizes.{Sizes}

-- The offset of the token at which a fault lies. A fault lies at no token if the bytes end too soon or are too many, if a read fails, or if memory runs out.
abbrev pub token_offset : TextFault → Option ℕ
token_offset (fault.Ended end) = None
token_offset (fault.Expected w at) = Some at
token_offset (fault.UnknownWord at) = Some at
token_offset (fault.NotANumber at) = Some at
token_offset (fault.UnknownIndex at) = Some at
token_offset (fault.RepeatedIndex at) = Some at
token_offset (fault.TrailingToken at) = Some at
token_offset (fault.TooManyNodes at) = Some at
token_offset (fault.Feed feed.Read) = None
token_offset (fault.Feed (feed.TokenTooLong at)) = Some at
token_offset (fault.Feed feed.TooManyBytes) = None
token_offset (fault.Feed feed.OutOfMemory) = None
token_offset fault.OutOfMemory = None

-- Where places of the tree are open, the next node fails; where none is open, the end fails.
abbrev pub FailsNext : Sizes → ℕ → Option ℕ → ℕ → Stream → TextFault → Type 0
FailsNext sizes version None count s e = ⊥
FailsNext sizes version (Some zero) count s e = end_at s ≡ Err e
FailsNext sizes version (Some (suc places)) count s e = node_at sizes version count s ≡ Err e

-- Nodes are read, and then the next node fails, or the end after a whole tree. This many places are open and this many nodes come before.
pub record NodesFail (sizes : Sizes) (version places count : ℕ) (s : Stream) (e : TextFault) : Type 0 where
  pub nodes : List Node
  pub rest : Stream
  pub reads : ReadsNodes sizes version count s nodes rest
  pub fails : FailsNext sizes version (open_after places nodes) (count + length nodes) rest e

-- The header is read, and then the nodes or the end fail.
pub record BodyFails (sizes : Sizes) (s : Stream) (e : TextFault) : Type 0 where
  pub version : ℕ
  pub bound : Bound
  pub headed : Stream
  pub header : header_at s ≡ Ok ((version, bound), headed)
  pub body : NodesFail sizes version 1 0 headed e

-- Reading a stream as a proof fails with this fault.
abbrev pub ReadingFails : Sizes → Stream → TextFault → Type 0
ReadingFails sizes s e = (header_at s ≡ Err e) ⊎ BodyFails sizes s e
