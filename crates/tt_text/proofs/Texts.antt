-- Texts of lines, in turn.
use Rattle.std.proofs.Common.{◌≡◌, ℕ, ◌≤◌, List, [], ◌∷◌, ◌++◌, length, map, take, refl, sym, ap, ◌∙◌, append_assoc}
use Rattle.std.specs.List.{flat_map}
use Rattle.std.proofs.lemmas.List.{take_all}
use Rattle.tt_text.specs.Pieces.{Piece}
use Rattle.tt_text.specs.Lines.{line_text, lines_text}

pub lines_text-append : (ls more : List (List Piece)) → lines_text (ls ++ more) ≡ lines_text ls ++ lines_text more
lines_text-append [] more = refl
lines_text-append (l ∷ ls) more = ap (λ (t : List ℕ). line_text l ++ t) (lines_text-append ls more)
    ∙ sym (append_assoc (line_text l) (lines_text ls) (lines_text more))

-- lines made of rows
pub rows_text : {X : Type 0} (f : X → List Piece) (rows : List X) → lines_text (map f rows) ≡ flat_map (λ r. line_text (f r)) rows
rows_text f [] = refl
rows_text f (r ∷ rs) = ap (λ (t : List ℕ). line_text (f r) ++ t) (rows_text f rs)

-- all rows are written
pub rows_done : {X : Type 0} (f : X → List Piece) (rows : List X) (i : ℕ) (out : List ℕ) → out ≡ flat_map (λ r. line_text (f r))
    (take i rows) → length rows ≤ i → out ≡ lines_text (map f rows)
rows_done {X} f rows i out so_far le = so_far ∙ ap (flat_map (λ (r : X). line_text (f r))) (take_all i rows le) ∙ sym (rows_text f rows)
