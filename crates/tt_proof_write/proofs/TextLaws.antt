-- Lines of pieces, written piece by piece.
use Rattle.std.proofs.Common.{◌≡◌, ℕ, ◌+◌, ◌<◌, ◌≤◌, OnOk, Result, Ok, Err, get_or, List, [], ◌∷◌, ◌++◌, length, map, take, refl, sym, ap, ◌∙◌, append_assoc}
use Rattle.std.specs.List.{flat_map}
use Rattle.std.proofs.lemmas.List.{append-nil, take_all, take_more, flat_map_more}
use Rattle.std.proofs.lemmas.Grind.{flat_map-append}
use Rattle.tt_text.specs.Pieces.{Piece, Text}
use Rattle.tt_text.specs.Lines.{text_of, line_text, lines_text}
use Rattle.tt_text.proofs.Texts.{rows_text, lines_text-append}
use Rattle.tt_proof_write.specs.Written.{tail_text}

pub tail_text-append : (ps qs : List Piece) → tail_text (ps ++ qs) ≡ tail_text ps ++ tail_text qs
tail_text-append ps qs = flat_map-append (λ (p : Piece). 32 ∷ text_of p) ps qs

-- the first piece, the others, and the end of the line
pub line_text-cons : (p : Piece) (ps : List Piece) → line_text (p ∷ ps) ≡ text_of p ++ (tail_text ps ++ 10 ∷ [])
line_text-cons p [] = refl
line_text-cons p (q ∷ qs) =
    ap (λ (t : List ℕ). text_of p ++ 32 ∷ t) (line_text-cons q qs) ∙ ap (λ (t : List ℕ). text_of p ++ 32 ∷ t)
    (sym (append_assoc (text_of q) (tail_text qs) (10 ∷ [])))

-- the texts of rows of pieces
pub tail_text-rows : {X : Type 0} (f : X → List Piece) (xs : List X) → tail_text (flat_map f xs) ≡ flat_map (λ x. tail_text (f x)) xs
tail_text-rows f [] = refl
tail_text-rows f (x ∷ xs) = tail_text-append (f x) (flat_map f xs) ∙ ap (λ (t : List ℕ). tail_text (f x) ++ t) (tail_text-rows f xs)

-- the texts of single pieces
pub tail_text-map : {X : Type 0} (f : X → Piece) (xs : List X) → tail_text (map f xs) ≡ flat_map (λ x. tail_text (f x ∷ [])) xs
tail_text-map f [] = refl
tail_text-map f (x ∷ xs) = tail_text-append (f x ∷ []) (map f xs) ∙ ap (λ (t : List ℕ). tail_text (f x ∷ []) ++ t) (tail_text-map f xs)

-- all rows are written
pub rows_written : {X : Type 0} (f : X → List Piece) (xs : List X) (i : ℕ) (old out : List ℕ)
    → out ≡ old ++ flat_map (λ x. tail_text (f x)) (take i xs) → length xs ≤ i → out ≡ old ++ tail_text (flat_map f xs)
rows_written {X} f xs i old out so_far le =
    so_far ∙ ap (λ (ys : List X). old ++ flat_map (λ (x : X). tail_text (f x)) ys) (take_all i xs le)
    ∙ ap (λ (t : List ℕ). old ++ t) (sym (tail_text-rows f xs))

-- all single pieces are written
pub pieces_written : {X : Type 0} (f : X → Piece) (xs : List X) (i : ℕ) (old out : List ℕ)
    → out ≡ old ++ flat_map (λ x. tail_text (f x ∷ [])) (take i xs) → length xs ≤ i → out ≡ old ++ tail_text (map f xs)
pieces_written {X} f xs i old out so_far le =
    so_far ∙ ap (λ (ys : List X). old ++ flat_map (λ (x : X). tail_text (f x ∷ [])) ys) (take_all i xs le)
    ∙ ap (λ (t : List ℕ). old ++ t) (sym (tail_text-map f xs))

-- all lines are written
pub lines_written : {X : Type 0} (f : X → List Piece) (xs : List X) (i : ℕ) (old out : List ℕ)
    → out ≡ old ++ flat_map (λ x. line_text (f x)) (take i xs) → length xs ≤ i → out ≡ old ++ lines_text (map f xs)
lines_written {X} f xs i old out so_far le =
    so_far ∙ ap (λ (ys : List X). old ++ flat_map (λ (x : X). line_text (f x)) ys) (take_all i xs le)
    ∙ ap (λ (t : List ℕ). old ++ t) (sym (rows_text f xs))

-- pieces after other pieces
pub pieces_behind : (old out more : List ℕ) (ps qs : List Piece) → out ≡ old ++ tail_text ps → more ≡ tail_text qs
    → out ++ more ≡ old ++ tail_text (ps ++ qs)
pieces_behind old out more ps qs e f =
    rw (e, f) (append_assoc old (tail_text ps) (tail_text qs) ∙ ap (λ (t : List ℕ). old ++ t) (sym (tail_text-append ps qs)))

-- a line is written
pub line_written : (word old first second : List ℕ) (ps : List Piece) → first ≡ old ++ word → second ≡ first ++ tail_text ps
    → second ++ 10 ∷ [] ≡ old ++ line_text (Text word ∷ ps)
line_written word old first second ps e f = rw (f, e) (simp append_assoc refl)
    ∙ ap (λ (t : List ℕ). old ++ t) (sym (line_text-cons (Text word) ps))

-- a line, other lines and a last line of one word are written
pub all_written : (head : List Piece) (ls : List (List Piece)) (word none first second third fourth : List ℕ) → none ≡ []
    → first ≡ none ++ line_text head → second ≡ first ++ lines_text ls → third ≡ second ++ word → fourth ≡ third ++ 10 ∷ []
    → fourth ≡ lines_text (head ∷ (ls ++ (Text word ∷ []) ∷ []))
all_written head ls word none first second third fourth a b c d e =
    rw (e, d, c, b, a) (simp append_assoc refl) ∙ ap (λ (t : List ℕ). line_text head ++ t)
    (sym (lines_text-append ls ((Text word ∷ []) ∷ []) ∙ ap (λ (t : List ℕ). lines_text ls ++ t) (append-nil (word ++ 10 ∷ []))))

-- another row is written
pub one_more : {X A : Type 0} (f : X → List A) (xs : List X) (i : ℕ) (d x : X) (old out more : List A) → i < length xs
    → x ≡ get_or xs i d → out ≡ old ++ flat_map f (take i xs) → more ≡ out ++ f x → more ≡ old ++ flat_map f (take (i + 1) xs)
one_more {X} f xs i d x old out more below is so_far now =
    let longer = sym (take_more xs i d below) in
    now ∙ rw (so_far, is) (flat_map_more f old (take i xs) (get_or xs i d)) ∙ ap (λ (ys : List X). old ++ flat_map f ys) longer

pub on_ok : {T E P : Type 0} (r : Result T E) → P → OnOk r P
on_ok (Ok x) fact = fact
on_ok (Err e) fact = tt
