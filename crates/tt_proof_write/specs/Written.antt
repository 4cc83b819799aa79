-- The text of a proof: one line for the header, one for each node and one for the end.
use Rattle.std.specs.Prelude.{ℕ, List, [], ◌∷◌, ◌++◌, map, flat_map, codes}
use Rattle.tt_text.specs.Pieces.{Piece, Text, Number, Index}
use Rattle.tt_text.specs.Lines.{text_of, lines_text}
use Rattle.tt_leaf.specs.declared.leaf.Bound.{Bound}
use Rattle.tt_leaf.specs.declared.leaf.Claim.{Claim}
use Rattle.tt_leaf.specs.declared.leaf.Claim.TheVariants.{Capacity, Days, Compact, Stable, Prices, Stacked}
use Rattle.tt_leaf.specs.declared.leaf.Leaf.TheVariants.{Empty, Many, Clique, Slots, Cost}
use Rattle.tt_proof_read.specs.declared.fault.Word.TheVariants as word
use Rattle.tt_proof_read.specs.declared.format.TheConstants.{COURSE_LETTER, CURRICULUM_LETTER, ROOM_LETTER}
use Rattle.tt_proof_read.specs.declared.node.Node.{Node}
use Rattle.tt_proof_read.specs.declared.node.Node.TheVariants.{Split, Leaf}
use Rattle.tt_proof_read.specs.Words.{fixed}
use Rattle.tt_proof_read.specs.Spelling.{version_text, bound_piece, course_piece, pattern_pieces, listed_pieces}

-- numbers with prices, each after the letter of its kind
abbrev pub priced_pieces : ℕ → ℕ × ℕ → List Piece
priced_pieces letter k = Index letter k.0 ∷ Number k.1 ∷ []

-- The letter that begins a claim.
abbrev pub claim_word : Claim → List ℕ
claim_word (Capacity c u) = codes "C"
claim_word (Days c) = codes "D"
claim_word (Compact q) = codes "Q"
claim_word (Stable c) = codes "R"
claim_word (Prices courses rooms) = codes "P"
claim_word (Stacked c) = codes "T"

-- the pieces after the word of a claim; the prices of courses come before those of rooms
abbrev pub claim_rest : Claim → List Piece
claim_rest (Capacity c u) = course_piece c ∷ Number u ∷ []
claim_rest (Days c) = course_piece c ∷ []
claim_rest (Compact q) = Index CURRICULUM_LETTER q ∷ []
claim_rest (Stable c) = course_piece c ∷ []
claim_rest (Prices courses rooms) = flat_map (priced_pieces COURSE_LETTER) courses ++ flat_map (priced_pieces ROOM_LETTER) rooms ++ Text (codes "/") ∷ []
claim_rest (Stacked c) = course_piece c ∷ []

-- All pieces of a claim, its word first.
abbrev pub claim_pieces : Claim → List Piece
claim_pieces claim = Text (claim_word claim) ∷ claim_rest claim

-- The letter that begins a node.
abbrev pub node_word : Node → List ℕ
node_word (Split g) = codes "S"
node_word (Leaf (Empty g)) = codes "E"
node_word (Leaf (Many c)) = codes "M"
node_word (Leaf (Clique cs)) = codes "K"
node_word (Leaf (Slots cs)) = codes "H"
node_word (Leaf (Cost claims)) = codes "B"

-- the pieces after the word of a node
abbrev pub node_rest : Node → List Piece
node_rest (Split g) = pattern_pieces g
node_rest (Leaf (Empty g)) = pattern_pieces g
node_rest (Leaf (Many c)) = course_piece c ∷ []
node_rest (Leaf (Clique cs)) = listed_pieces cs
node_rest (Leaf (Slots cs)) = listed_pieces cs
node_rest (Leaf (Cost claims)) = flat_map claim_pieces claims ++ Text (codes ";") ∷ []

-- the line of a node
abbrev pub node_pieces : Node → List Piece
node_pieces node = Text (node_word node) ∷ node_rest node

-- The line of the header: `CTTP`, the version, `bound` and the bound.
abbrev pub header_pieces : ℕ → Bound → List Piece
header_pieces v b = fixed word.Cttp ∷ Text (version_text v) ∷ fixed word.Bound ∷ bound_piece b ∷ []

-- The lines of a proof: the header, each node and `end`.
abbrev pub proof_lines : ℕ → Bound → List Node → List (List Piece)
proof_lines v b nodes = header_pieces v b ∷ (map node_pieces nodes ++ (fixed word.End ∷ []) ∷ [])

-- The bytes of a proof, line by line.
abbrev pub proof_text : ℕ → Bound → List Node → List ℕ
proof_text v b nodes = lines_text (proof_lines v b nodes)

-- pieces of a line after its first, each after a space
abbrev pub tail_text : List Piece → List ℕ
tail_text ps = flat_map (λ p. 32 ∷ text_of p) ps
