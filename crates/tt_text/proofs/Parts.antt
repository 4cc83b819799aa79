-- Lines put together from parts.
use Rattle.std.proofs.Common.{◌≡◌, List, [], ◌∷◌, ◌++◌, map, refl, sym, ap, ◌∙◌, append_assoc}
use Rattle.std.specs.Prelude.{All}
use Rattle.std.specs.List.{flat_map}
use Rattle.std.proofs.lemmas.List.Elements.{All-head, All-tail}
use Rattle.tt_text.specs.Pieces.{Piece}
use Rattle.tt_text.specs.Lines.{all_pieces, IsWritable, AreWritable, LinesWritable}

-- the pieces of some lines followed by more lines
pub all_pieces-append : (ls ms : List (List Piece)) → all_pieces (ls ++ ms) ≡ all_pieces ls ++ all_pieces ms
all_pieces-append [] ms = refl
all_pieces-append (l ∷ ls) ms = ap (λ ps. l ++ ps) (all_pieces-append ls ms) ∙ sym (append_assoc l (all_pieces ls) (all_pieces ms))

-- the pieces of a line for each element
pub all_pieces-map : {X : Type 0} (line : X → List Piece) (xs : List X) → all_pieces (map line xs) ≡ flat_map line xs
all_pieces-map line [] = refl
all_pieces-map line (x ∷ xs) = ap (λ ps. line x ++ ps) (all_pieces-map line xs)

-- a piece for each element
pub AreWritable-map : {X : Type 0} (piece : X → Piece) (xs : List X) → All (λ x. IsWritable (piece x)) xs → AreWritable (map piece xs)
AreWritable-map piece [] h = tt
AreWritable-map piece (x ∷ xs) h =
    (All-head (λ y. IsWritable (piece y)) x xs h, AreWritable-map piece xs (All-tail (λ y. IsWritable (piece y)) x xs h))

-- some lines followed by more lines
pub LinesWritable-append : (ls ms : List (List Piece)) → LinesWritable ls → LinesWritable ms → LinesWritable (ls ++ ms)
LinesWritable-append [] ms a b = b
LinesWritable-append (l ∷ ls) ms a b = (a.0, LinesWritable-append ls ms a.1 b)

-- a line for each element
pub LinesWritable-map : {X : Type 0} (line : X → List Piece) (xs : List X) → All (λ x. AreWritable (line x)) xs
    → LinesWritable (map line xs)
LinesWritable-map line [] h = tt
LinesWritable-map line (x ∷ xs) h =
    (All-head (λ y. AreWritable (line y)) x xs h, LinesWritable-map line xs (All-tail (λ y. AreWritable (line y)) x xs h))
