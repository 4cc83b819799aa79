-- The pieces of nodes can be written as short tokens.
use Rattle.std.proofs.Common.{◌≡◌, ℕ, ◌<◌, ◌≤◌, Bool, true, false, List, [], ◌∷◌, ◌++◌, map, Option, Some, None, codes, refl, arith, lit<, lit≤, All, IfSome}
use Rattle.std.specs.Prelude.{◌==◌, if◌then◌else◌}
use Rattle.std.specs.List.{flat_map}
use Rattle.std.proofs.lemmas.Fmt.{length-decimal-le}
use Rattle.std.proofs.lemmas.List.Elements.{All-head, All-tail}
use Rattle.tt_text.specs.Tokens.{is_separator}
use Rattle.tt_text.specs.Pieces.{Piece, Text, Number, Index}
use Rattle.tt_path.specs.declared.facts.Who.{Who}
use Rattle.tt_path.specs.declared.facts.Who.TheVariants.{Course, Curriculum}
use Rattle.tt_path.specs.declared.facts.Pattern.{Pattern}
use Rattle.tt_leaf.specs.declared.leaf.Bound.{Bound}
use Rattle.tt_leaf.specs.declared.leaf.Bound.TheVariants.{AtLeast, Nothing}
use Rattle.tt_leaf.specs.declared.leaf.Claim.{Claim}
use Rattle.tt_leaf.specs.declared.leaf.Claim.TheVariants.{Capacity, Days, Compact, Stable, Prices, Stacked}
use Rattle.tt_leaf.specs.declared.leaf.Leaf.TheVariants.{Empty, Many, Clique, Slots, Cost}
use Rattle.tt_proof_read.specs.declared.format.TheConstants.{COURSE_LETTER, CURRICULUM_LETTER, DAY_LETTER, MAX_POINTS, PERIOD_LETTER, ROOM_LETTER}
use Rattle.tt_proof_read.specs.declared.node.Node.{Node}
use Rattle.tt_proof_read.specs.declared.node.Node.TheVariants.{Split, Leaf}
use Rattle.tt_proof_read.specs.Spelling.{given_piece, course_piece, who_piece, pattern_pieces, bound_piece, IsBound}
use Rattle.tt_proof_write.specs.Inner.Numbers.{IsNarrow, IsNarrowPair, IsNarrowWho, IsNarrowPattern, IsNarrowClaim, IsNarrowNode}
use Rattle.tt_proof_write.specs.Written.{priced_pieces, claim_word, claim_rest, claim_pieces, node_pieces, header_pieces, proof_lines}
use Rattle.tt_proof_write.proofs.TokenLaws.{IsFit, AreFit, LinesFit}

-- ---- single pieces

number_fit : (n : ℕ) → n ≤ MAX_POINTS → IsFit (Number n)
number_fit n small =
    let len = length-decimal-le 20 n (lit< tt) (omega arith) (omega arith) in
    record { writable = omega arith; short = omega (arith, len) }

index_fit : (letter n : ℕ) → is_separator letter ≡ false → n ≤ MAX_POINTS → IsFit (Index letter n)
index_fit letter n apart small =
    let len = length-decimal-le 20 n (lit< tt) (omega arith) (omega arith) in
    record { writable = (apart, omega arith); short = omega (arith, len) }

letter_fit : (letter : ℕ) → is_separator letter ≡ false → IsFit (Text (letter ∷ []))
letter_fit letter apart = record { writable = record { some = lit< tt; within = rw apart refl }; short = lit≤ tt }

-- ---- lists of pieces

fit_append : (ps qs : List Piece) → AreFit ps → AreFit qs → AreFit (ps ++ qs)
fit_append [] qs ps_fit qs_fit = qs_fit
fit_append (p ∷ ps) qs ps_fit qs_fit = (ps_fit.0, fit_append ps qs ps_fit.1 qs_fit)

lines_append : (ls ms : List (List Piece)) → LinesFit ls → LinesFit ms → LinesFit (ls ++ ms)
lines_append [] ms ls_fit ms_fit = ms_fit
lines_append (l ∷ ls) ms ls_fit ms_fit = (ls_fit.0, lines_append ls ms ls_fit.1 ms_fit)

-- ---- patterns

given_fit : (letter : ℕ) (o : Option ℕ) → is_separator letter ≡ false → IfSome o IsNarrow → IsFit (given_piece letter o)
given_fit letter None apart narrow = letter_fit 42 refl
given_fit letter (Some n) apart narrow = index_fit letter n apart (omega arith)

who_fit : (w : Who) → IsNarrowWho w → IsFit (who_piece w)
who_fit (Course c) narrow = index_fit COURSE_LETTER c refl (omega arith)
who_fit (Curriculum q) narrow = index_fit CURRICULUM_LETTER q refl (omega arith)

pattern_fit : (g : Pattern) → IsNarrowPattern g → AreFit (pattern_pieces g)
pattern_fit g narrow = (
  who_fit g.who narrow.who,
  (
    given_fit ROOM_LETTER g.room refl narrow.room,
    (given_fit DAY_LETTER g.day refl narrow.day, (given_fit PERIOD_LETTER g.period refl narrow.period, tt)),
  ),
)

-- ---- lists of courses

courses_fit : (cs : List ℕ) → All IsNarrow cs → AreFit (map course_piece cs)
courses_fit [] narrow = tt
courses_fit (c ∷ cs) narrow =
    let here : c < 4294967296 = All-head IsNarrow c cs narrow in
    (index_fit COURSE_LETTER c refl (omega arith), courses_fit cs (All-tail IsNarrow c cs narrow))

listed_fit : (cs : List ℕ) → All IsNarrow cs → AreFit (map course_piece cs ++ Text (codes ";") ∷ [])
listed_fit cs narrow = fit_append (map course_piece cs) (Text (codes ";") ∷ []) (courses_fit cs narrow) (letter_fit 59 refl, tt)

-- ---- claims

prices_fit : (letter : ℕ) (ks : List (ℕ × ℕ)) → is_separator letter ≡ false → All IsNarrowPair ks
    → AreFit (flat_map (priced_pieces letter) ks)
prices_fit letter [] apart narrow = tt
prices_fit letter (k ∷ ks) apart narrow =
    let here = All-head IsNarrowPair k ks narrow in (
      index_fit letter k.0 apart (omega (arith, here.0)),
      (number_fit k.1 (omega (arith, here.1)), prices_fit letter ks apart (All-tail IsNarrowPair k ks narrow)),
    )

claim_word_fit : (claim : Claim) → IsFit (Text (claim_word claim))
claim_word_fit (Capacity c u) = letter_fit 67 refl
claim_word_fit (Days c) = letter_fit 68 refl
claim_word_fit (Compact q) = letter_fit 81 refl
claim_word_fit (Stable c) = letter_fit 82 refl
claim_word_fit (Prices courses rooms) = letter_fit 80 refl
claim_word_fit (Stacked c) = letter_fit 84 refl

claim_rest_fit : (claim : Claim) → IsNarrowClaim claim → AreFit (claim_rest claim)
claim_rest_fit (Capacity c u) narrow =
    (index_fit COURSE_LETTER c refl (omega (arith, narrow.0)), (number_fit u (omega (arith, narrow.1)), tt))
claim_rest_fit (Days c) narrow = (index_fit COURSE_LETTER c refl (omega arith), tt)
claim_rest_fit (Compact q) narrow = (index_fit CURRICULUM_LETTER q refl (omega arith), tt)
claim_rest_fit (Stable c) narrow = (index_fit COURSE_LETTER c refl (omega arith), tt)
claim_rest_fit (Prices courses rooms) narrow =
    fit_append (flat_map (priced_pieces COURSE_LETTER) courses ++ flat_map (priced_pieces ROOM_LETTER) rooms) (Text (codes "/") ∷ [])
    (fit_append (flat_map (priced_pieces COURSE_LETTER) courses) (flat_map (priced_pieces ROOM_LETTER) rooms)
    (prices_fit COURSE_LETTER courses refl narrow.0) (prices_fit ROOM_LETTER rooms refl narrow.1))
    (letter_fit 47 refl, tt)
claim_rest_fit (Stacked c) narrow = (index_fit COURSE_LETTER c refl (omega arith), tt)

claims_fit : (claims : List Claim) → All IsNarrowClaim claims → AreFit (flat_map claim_pieces claims)
claims_fit [] narrow = tt
claims_fit (c ∷ cs) narrow = (
  claim_word_fit c,
  fit_append (claim_rest c) (flat_map claim_pieces cs) (claim_rest_fit c (All-head IsNarrowClaim c cs narrow))
      (claims_fit cs (All-tail IsNarrowClaim c cs narrow)),
)

-- ---- nodes

node_fit : (node : Node) → IsNarrowNode node → AreFit (node_pieces node)
node_fit (Split g) narrow = (letter_fit 83 refl, pattern_fit g narrow)
node_fit (Leaf (Empty g)) narrow = (letter_fit 69 refl, pattern_fit g narrow)
node_fit (Leaf (Many c)) narrow = (letter_fit 77 refl, (index_fit COURSE_LETTER c refl (omega arith), tt))
node_fit (Leaf (Clique cs)) narrow = (letter_fit 75 refl, listed_fit cs narrow)
node_fit (Leaf (Slots cs)) narrow = (letter_fit 72 refl, listed_fit cs narrow)
node_fit (Leaf (Cost claims)) narrow = (
  letter_fit 66 refl,
  fit_append (flat_map claim_pieces claims) (Text (codes ";") ∷ []) (claims_fit claims narrow)
      (letter_fit 59 refl, tt),
)

nodes_fit : (nodes : List Node) → All IsNarrowNode nodes → LinesFit (map node_pieces nodes)
nodes_fit [] narrow = tt
nodes_fit (node ∷ nodes) narrow =
    (node_fit node (All-head IsNarrowNode node nodes narrow), nodes_fit nodes (All-tail IsNarrowNode node nodes narrow))

-- ---- the whole text

version_fit : (first : Bool) → IsFit (Text (if first then codes "1" else codes "2"))
version_fit true = letter_fit 49 refl
version_fit false = letter_fit 50 refl

bound_fit : (b : Bound) → IsBound b → IsFit (bound_piece b)
bound_fit (AtLeast n) h = number_fit n h
bound_fit Nothing h = record { writable = record { some = lit< tt; within = refl }; short = lit≤ tt }

header_fit : (v : ℕ) (b : Bound) → IsBound b → AreFit (header_pieces v b)
header_fit v b h = (
  record { writable = record { some = lit< tt; within = refl }; short = lit≤ tt },
  (version_fit (v == 1), (record { writable = record { some = lit< tt; within = refl }; short = lit≤ tt }, (bound_fit b h, tt))),
)

pub proof_fit : (v : ℕ) (b : Bound) (nodes : List Node) → IsBound b → All IsNarrowNode nodes → LinesFit (proof_lines v b nodes)
proof_fit v b nodes bound narrow = (
  header_fit v b bound,
  lines_append (map node_pieces nodes) _ (nodes_fit nodes narrow)
      ((record { writable = record { some = lit< tt; within = refl }; short = lit≤ tt }, tt), tt),
)
