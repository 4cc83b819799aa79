-- Which proofs the bytes of a `CTTP` file spell.
use Rattle.std.specs.Prelude.{◌≡◌, ℕ, ◌<◌, ◌≤◌, ◌==◌, true, List, [], ◌∷◌, ◌++◌, length, map, flat_map, codes, All, if◌then◌else◌, Option, Some, None, ⊤}
use Rattle.tt_list_laws.specs.Words.{are_distinct}
use Rattle.tt_text.specs.Tokens.{tokens_of}
use Rattle.tt_text.specs.declared.feed.TheConstants.{MAX_BYTES, MAX_TOKEN_BYTES}
use Rattle.tt_text.specs.Pieces.{Piece, Text, Number, Index, Begins}
use Rattle.tt_instance.specs.Problem.{Problem}
use Rattle.tt_path.specs.declared.facts.Who.{Who}
use Rattle.tt_path.specs.declared.facts.Who.TheVariants.{Course, Curriculum}
use Rattle.tt_path.specs.declared.facts.Pattern.{Pattern}
use Rattle.tt_path.specs.Facts.{IsPattern}
use Rattle.tt_leaf.specs.Ranges.{AreBelow, ArePrices}
use Rattle.tt_leaf.specs.declared.leaf.Bound.{Bound}
use Rattle.tt_leaf.specs.declared.leaf.Bound.TheVariants.{AtLeast, Nothing}
use Rattle.tt_leaf.specs.declared.leaf.Claim.{Claim}
use Rattle.tt_leaf.specs.declared.leaf.Claim.TheVariants.{Capacity, Days, Compact, Stable, Prices, Stacked}
use Rattle.tt_leaf.specs.declared.leaf.Leaf.{Leaf}
use Rattle.tt_leaf.specs.declared.leaf.Leaf.TheVariants.{Empty, Many, Clique, Slots, Cost}
use Rattle.tt_proof_read.specs.declared.format.TheConstants.{COURSE_LETTER, CURRICULUM_LETTER, DAY_LETTER, MAX_PROOF_NODES, MAX_POINTS, MAX_PRICE, PERIOD_LETTER, ROOM_LETTER}
use Rattle.tt_proof_read.specs.declared.node.Node.{Node}
use Rattle.tt_proof_read.specs.declared.node.Node.TheVariants as node
use Rattle.tt_proof_read.specs.Trees.{Tree, preorder, IsShallow}

-- -- the spelling of each part

-- The number after its letter, or `*` if no number is given.
abbrev pub given_piece : ℕ → Option ℕ → Piece
given_piece letter None = Text (codes "*")
given_piece letter (Some n) = Index letter n

-- `c` and a number.
abbrev pub course_piece : ℕ → Piece
course_piece c = Index COURSE_LETTER c

-- The number of a course or curriculum, after its letter.
abbrev pub who_piece : Who → Piece
who_piece (Course c) = course_piece c
who_piece (Curriculum q) = Index CURRICULUM_LETTER q

-- The course or curriculum, the room, the day and the period.
abbrev pub pattern_pieces : Pattern → List Piece
pattern_pieces g = who_piece g.who ∷ given_piece ROOM_LETTER g.room ∷ given_piece DAY_LETTER g.day ∷ given_piece PERIOD_LETTER g.period ∷ []

-- Courses up to `;`.
abbrev pub listed_pieces : List ℕ → List Piece
listed_pieces cs = map course_piece cs ++ Text (codes ";") ∷ []

-- A price of a course or of a room.
pub data Price : Type 0 where
  OfCourse : ℕ → ℕ → Price
  OfRoom : ℕ → ℕ → Price

-- A course or room, and then its price.
abbrev pub price_pieces : Price → List Piece
price_pieces (OfCourse c u) = course_piece c ∷ Number u ∷ []
price_pieces (OfRoom r u) = Index ROOM_LETTER r ∷ Number u ∷ []

-- The prices of courses.
abbrev pub course_prices : List Price → List (ℕ × ℕ)
course_prices [] = []
course_prices (OfCourse c u ∷ xs) = (c, u) ∷ course_prices xs
course_prices (OfRoom r u ∷ xs) = course_prices xs

-- The prices of rooms.
abbrev pub room_prices : List Price → List (ℕ × ℕ)
room_prices [] = []
room_prices (OfCourse c u ∷ xs) = room_prices xs
room_prices (OfRoom r u ∷ xs) = (r, u) ∷ room_prices xs

-- The prices of courses and the prices of rooms; in a file they may be in any order.
abbrev pub by_kind : List Price → List (ℕ × ℕ) × List (ℕ × ℕ)
by_kind prices = (course_prices prices, room_prices prices)

-- The pieces spell the claim: its word and then its numbers; prices of courses and prices of rooms may be mixed.
abbrev pub SpellsClaim : Claim → List Piece → Type 0
SpellsClaim (Capacity c u) ps = ps ≡ Text (codes "C") ∷ course_piece c ∷ Number u ∷ []
SpellsClaim (Days c) ps = ps ≡ Text (codes "D") ∷ course_piece c ∷ []
SpellsClaim (Compact q) ps = ps ≡ Text (codes "Q") ∷ Index CURRICULUM_LETTER q ∷ []
SpellsClaim (Stable c) ps = ps ≡ Text (codes "R") ∷ course_piece c ∷ []
SpellsClaim (Prices courses rooms) ps =
    (prices : List Price) × (by_kind prices ≡ (courses, rooms)) × (ps ≡ Text (codes "P") ∷ (flat_map price_pieces prices ++ Text (codes "/") ∷ []))
SpellsClaim (Stacked c) ps = ps ≡ Text (codes "T") ∷ course_piece c ∷ []

-- Each part in order.
abbrev pub SpellsEach : {X : Type 0} → (X → List Piece → Type 0) → List X → List Piece → Type 0
SpellsEach S [] ps = ps ≡ []
SpellsEach S (x ∷ xs) ps = (first rest : List Piece) × S x first × SpellsEach S xs rest × (ps ≡ first ++ rest)

-- The pieces spell the node: its word and then its pattern, its courses or its claims.
abbrev pub SpellsNode : Node → List Piece → Type 0
SpellsNode (node.Split g) ps = ps ≡ Text (codes "S") ∷ pattern_pieces g
SpellsNode (node.Leaf (Empty g)) ps = ps ≡ Text (codes "E") ∷ pattern_pieces g
SpellsNode (node.Leaf (Many c)) ps = ps ≡ Text (codes "M") ∷ course_piece c ∷ []
SpellsNode (node.Leaf (Clique cs)) ps = ps ≡ Text (codes "K") ∷ listed_pieces cs
SpellsNode (node.Leaf (Slots cs)) ps = ps ≡ Text (codes "H") ∷ listed_pieces cs
SpellsNode (node.Leaf (Cost claims)) ps =
    (body : List Piece) × SpellsEach SpellsClaim claims body × (ps ≡ Text (codes "B") ∷ (body ++ Text (codes ";") ∷ []))

-- The number of a bound, or `none`.
abbrev pub bound_piece : Bound → Piece
bound_piece (AtLeast b) = Number b
bound_piece Nothing = Text (codes "none")

-- The token of a version: `1` for version 1, otherwise `2`.
abbrev pub version_text : ℕ → List ℕ
version_text v = if v == 1 then codes "1" else codes "2"

-- -- the contents of a file

-- The numbers of a claim are in the range of the instance and within the limits; `Prices` and `Stacked` are claims of version 2.
abbrev pub IsClaim : Problem → ℕ → Claim → Type 0
IsClaim p v (Capacity c u) = (c < length p.courses) × (u ≤ MAX_PRICE)
IsClaim p v (Days c) = c < length p.courses
IsClaim p v (Compact q) = q < length p.curricula
IsClaim p v (Stable c) = c < length p.courses
IsClaim p v (Prices courses rooms) =
    (v ≡ 2) × (ArePrices (length p.courses) courses × All (λ k. k.1 ≤ MAX_PRICE) courses) × (ArePrices (length p.rooms) rooms × All (λ k. k.1 ≤ MAX_PRICE) rooms)
IsClaim p v (Stacked c) = (v ≡ 2) × (c < length p.courses)

-- Courses of the instance, none of them twice.
abbrev pub AreCourses : Problem → List ℕ → Type 0
AreCourses p cs = AreBelow (length p.courses) cs × (are_distinct cs ≡ true)

-- A file of this version may have the leaf: its numbers are in range and within the limits, and no list has a number twice.
abbrev pub IsLeaf : Problem → ℕ → Leaf → Type 0
IsLeaf p v (Empty g) = IsPattern p g
IsLeaf p v (Many c) = c < length p.courses
IsLeaf p v (Clique cs) = AreCourses p cs
IsLeaf p v (Slots cs) = AreCourses p cs
IsLeaf p v (Cost claims) = All (IsClaim p v) claims

-- A file of this version may have the node: a split with a pattern in the range of the instance, or a leaf of the version.
abbrev pub IsNode : Problem → ℕ → Node → Type 0
IsNode p v (node.Split g) = IsPattern p g
IsNode p v (node.Leaf leaf) = IsLeaf p v leaf

-- A bound in points is at most 1,000,000,000,000.
abbrev pub IsBound : Bound → Type 0
IsBound (AtLeast b) = b ≤ MAX_POINTS
IsBound Nothing = ⊤

-- The limits of a file.
pub record IsWithinLimits (bytes : List ℕ) (tree : Tree) : Type 0 where
  pub size : length bytes ≤ MAX_BYTES
  pub tokens : All (λ t. length t.text ≤ MAX_TOKEN_BYTES) (tokens_of bytes)
  pub nodes : length (preorder tree) ≤ MAX_PROOF_NODES
  pub depth : IsShallow tree

-- The tokens of the bytes are exactly `CTTP`, the version, `bound`, the bound, the tree in preorder and `end`.
pub record SpellsProof (p : Problem) (bytes : List ℕ) (v : ℕ) (b : Bound) (tree : Tree) : Type 0 where
  pub version : (1 ≤ v) × (v ≤ 2)
  pub bound : IsBound b
  pub body : List Piece
  pub nodes : SpellsEach SpellsNode (preorder tree) body
  pub tokens : Begins (Text (codes "CTTP") ∷ Text (version_text v) ∷ Text (codes "bound") ∷ bound_piece b ∷ (body ++ Text (codes "end") ∷ [])) (tokens_of bytes) []
  pub each : All (IsNode p v) (preorder tree)
  pub within : IsWithinLimits bytes tree
