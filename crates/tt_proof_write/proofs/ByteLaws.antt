-- The number of bytes in the texts of pieces, each piece with its separator.
use Rattle.std.proofs.Common.{◌≡◌, ℕ, ◌+◌, ◌<◌, ◌≤◌, ◌^◌, List, [], ◌∷◌, ◌++◌, length, map, take, refl, ap, ◌∙◌, arith, lit<, length-append}
use Rattle.std.specs.Fmt.{decimal}
use Rattle.std.specs.List.{flat_map}
use Rattle.std.proofs.lemmas.Fmt.{length-decimal-le}
use Rattle.std.proofs.lemmas.List.{append-nil, take_all}
use Rattle.tt_text.specs.Pieces.{Piece, Text}
use Rattle.tt_text.specs.Lines.{text_of, line_text, lines_text}
use Rattle.tt_text.proofs.Texts.{rows_text, lines_text-append}
use Rattle.tt_leaf.specs.declared.leaf.Leaf.TheVariants.{Empty, Many, Clique, Slots, Cost}
use Rattle.tt_proof_read.specs.declared.node.Node.{Node}
use Rattle.tt_proof_read.specs.declared.node.Node.TheVariants.{Split, Leaf}
use Rattle.tt_proof_write.specs.Inner.Bytes.{clipped}
use Rattle.tt_proof_write.specs.Written.{node_word, node_rest, node_pieces, tail_text}
use Rattle.tt_proof_write.proofs.TextLaws.{tail_text-append, tail_text-rows, tail_text-map, line_text-cons}

-- a number of 64 bits has at most 20 digits
pub digits_short : (n : ℕ) → n < 2 ^ 64 → length (decimal n) ≤ 20
digits_short n small = length-decimal-le 20 n (lit< tt) (omega arith) small

-- ---- texts of pieces

-- a piece and the pieces after it
pub length-tail_text : (p : Piece) (ps : List Piece) → length (tail_text (p ∷ ps)) ≡ length (tail_text (p ∷ [])) + length (tail_text ps)
length-tail_text p ps = ap (length {A = ℕ}) (tail_text-append (p ∷ []) ps) ∙ length-append (tail_text (p ∷ [])) (tail_text ps)

-- pieces and the pieces after them
pub length-tail_text-append : (ps qs : List Piece) → length (tail_text (ps ++ qs)) ≡ length (tail_text ps) + length (tail_text qs)
length-tail_text-append ps qs = ap (length {A = ℕ}) (tail_text-append ps qs) ∙ length-append (tail_text ps) (tail_text qs)

-- a line has the end of the line instead of the space before its first piece
pub length-line_text : (p : Piece) (ps : List Piece) → length (line_text (p ∷ ps)) ≡ length (tail_text (p ∷ ps))
length-line_text p ps = omega (
  arith,
  ap (length {A = ℕ}) (line_text-cons p ps),
  length-append (text_of p) (tail_text ps ++ 10 ∷ []),
  length-append (tail_text ps) (10 ∷ []),
  length-append (text_of p) (tail_text ps),
)

-- ---- lists

-- all rows and the pieces after them are counted
pub rows_counted : {X : Type 0} (f : X → List Piece) (xs : List X) (i before count : ℕ) (qs : List Piece)
    → count ≡ clipped (before + length (flat_map (λ x. tail_text (f x)) (take i xs))) → length xs ≤ i → length (tail_text qs) ≡ before
    → count ≡ clipped (length (tail_text (flat_map f xs ++ qs)))
rows_counted {X} f xs i before count qs counted end behind =
    let all = ap (λ (ys : List X). length (flat_map (λ (x : X). tail_text (f x)) ys)) (take_all i xs end) in
    let rows = ap (length {A = ℕ}) (tail_text-rows f xs) in
    counted ∙ ap clipped (omega (arith, all, rows, behind, length-tail_text-append (flat_map f xs) qs))

-- all single pieces and the pieces after them are counted
pub pieces_counted : {X : Type 0} (f : X → Piece) (xs : List X) (i before count : ℕ) (qs : List Piece)
    → count ≡ clipped (before + length (flat_map (λ x. tail_text (f x ∷ [])) (take i xs))) → length xs ≤ i
    → length (tail_text qs) ≡ before → count ≡ clipped (length (tail_text (map f xs ++ qs)))
pieces_counted {X} f xs i before count qs counted end behind =
    let all = ap (λ (ys : List X). length (flat_map (λ (x : X). tail_text (f x ∷ [])) ys)) (take_all i xs end) in
    let pieces = ap (length {A = ℕ}) (tail_text-map f xs) in
    counted ∙ ap clipped (omega (arith, all, pieces, behind, length-tail_text-append (map f xs) qs))

-- all lines are counted
pub lines_counted : {X : Type 0} (f : X → List Piece) (xs : List X) (i count : ℕ)
    → count ≡ clipped (0 + length (flat_map (λ x. line_text (f x)) (take i xs))) → length xs ≤ i
    → count ≡ clipped (length (lines_text (map f xs)))
lines_counted {X} f xs i count counted end =
    let all = ap (λ (ys : List X). length (flat_map (λ (x : X). line_text (f x)) ys)) (take_all i xs end) in
    let lines = ap (length {A = ℕ}) (rows_text f xs) in
    counted ∙ ap clipped (omega (arith, all, lines))

-- a first line, other lines and a last line
pub length-lines_text : (head : List Piece) (ls : List (List Piece)) (last : List Piece)
    → length (lines_text (head ∷ (ls ++ last ∷ []))) ≡ length (line_text head) + (length (lines_text ls) + length (line_text last))
length-lines_text head ls last =
    length-append (line_text head) (lines_text (ls ++ last ∷ []))
    ∙ ap (λ (n : ℕ). length (line_text head) + n) (ap (length {A = ℕ}) (lines_text-append ls (last ∷ []))
    ∙ length-append (lines_text ls) (line_text last ++ []) ∙ ap (λ (t : List ℕ). length (lines_text ls) + length t)
    (append-nil (line_text last)))

-- a first line, other lines and a last line are counted
pub all_counted : (head : List Piece) (ls : List (List Piece)) (last : List Piece) (first lines final count : ℕ)
    → first ≡ length (line_text head) → lines ≡ clipped (length (lines_text ls)) → final ≡ length (line_text last)
    → count ≡ clipped (lines + (first + final))
    → count ≡ clipped (length (lines_text (head ∷ (ls ++ last ∷ []))))
all_counted head ls last first lines final count is_first are_lines is_final is = omega (arith, length-lines_text head ls last)

-- ---- nodes

-- the word of a node is a letter
length-node_word : (node : Node) → length (node_word node) ≡ 1
length-node_word (Split g) = refl
length-node_word (Leaf (Empty g)) = refl
length-node_word (Leaf (Many c)) = refl
length-node_word (Leaf (Clique cs)) = refl
length-node_word (Leaf (Slots cs)) = refl
length-node_word (Leaf (Cost claims)) = refl

-- the word of a node is counted together with the pieces after it
pub node_counted : (node : Node) (rest count : ℕ) → rest ≡ clipped (length (tail_text (node_rest node))) → count ≡ clipped (rest + 2)
    → count ≡ clipped (length (line_text (node_pieces node)))
node_counted node rest count is_rest is =
    let word = Text (node_word node) in
    omega (
      arith,
      length-line_text word (node_rest node),
      length-tail_text word (node_rest node),
      length-append (node_word node) [],
      length-node_word node,
    )
