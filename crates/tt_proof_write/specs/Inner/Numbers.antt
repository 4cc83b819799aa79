-- The numbers of nodes have 32 bits.
use Rattle.std.specs.Prelude.{ℕ, ◌<◌, IfSome, All}
use Rattle.tt_path.specs.declared.facts.Who.{Who}
use Rattle.tt_path.specs.declared.facts.Who.TheVariants.{Course, Curriculum}
use Rattle.tt_path.specs.declared.facts.Pattern.{Pattern}
use Rattle.tt_leaf.specs.declared.leaf.Claim.{Claim}
use Rattle.tt_leaf.specs.declared.leaf.Claim.TheVariants.{Capacity, Days, Compact, Stable, Prices, Stacked}
use Rattle.tt_leaf.specs.declared.leaf.Leaf.TheVariants.{Empty, Many, Clique, Slots, Cost}
use Rattle.tt_proof_read.specs.declared.node.Node.{Node}
use Rattle.tt_proof_read.specs.declared.node.Node.TheVariants.{Split, Leaf}

-- The number has at most 32 bits.
abbrev pub IsNarrow : ℕ → Type 0
IsNarrow n = n < 4294967296

-- Both numbers of the pair have at most 32 bits.
abbrev pub IsNarrowPair : ℕ × ℕ → Type 0
IsNarrowPair k = IsNarrow k.0 × IsNarrow k.1

-- The number of the course or curriculum has at most 32 bits.
abbrev pub IsNarrowWho : Who → Type 0
IsNarrowWho (Course c) = IsNarrow c
IsNarrowWho (Curriculum q) = IsNarrow q

-- Each number that the pattern gives has at most 32 bits.
pub record IsNarrowPattern (g : Pattern) : Type 0 where
  pub who : IsNarrowWho g.who
  pub room : IfSome g.room IsNarrow
  pub day : IfSome g.day IsNarrow
  pub period : IfSome g.period IsNarrow

-- Each number of the claim has at most 32 bits, prices included.
abbrev pub IsNarrowClaim : Claim → Type 0
IsNarrowClaim (Capacity c u) = IsNarrow c × IsNarrow u
IsNarrowClaim (Days c) = IsNarrow c
IsNarrowClaim (Compact q) = IsNarrow q
IsNarrowClaim (Stable c) = IsNarrow c
IsNarrowClaim (Prices courses rooms) = All IsNarrowPair courses × All IsNarrowPair rooms
IsNarrowClaim (Stacked c) = IsNarrow c

-- Each number of the node has at most 32 bits.
abbrev pub IsNarrowNode : Node → Type 0
IsNarrowNode (Split g) = IsNarrowPattern g
IsNarrowNode (Leaf (Empty g)) = IsNarrowPattern g
IsNarrowNode (Leaf (Many c)) = IsNarrow c
IsNarrowNode (Leaf (Clique cs)) = All IsNarrow cs
IsNarrowNode (Leaf (Slots cs)) = All IsNarrow cs
IsNarrowNode (Leaf (Cost claims)) = All IsNarrowClaim claims
