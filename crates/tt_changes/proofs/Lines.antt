-- The text of lines, part by part.
use Rattle.std.proofs.Common.{◌≡◌, ℕ, ◌≤◌, List, [], ◌∷◌, ◌++◌, length, take, map, get_or, slice_get, codes, Some, refl, sym, ap, ◌∙◌, append_assoc}
use Rattle.std.specs.Prelude.{flat_map}
use Rattle.std.specs.Fmt.{decimal}
use Rattle.std.proofs.lemmas.Grind.{flat_map-append}
use Rattle.std.proofs.lemmas.List.{take_all, append-nil}
use Rattle.tt_text.specs.Pieces.{Piece, Text}
use Rattle.tt_text.specs.Lines.{text_of, line_text, lines_text}
use Rattle.tt_text.proofs.Texts.{rows_text}
use Rattle.tt_instance.specs.Problem.{Problem}
use Rattle.tt_instance.specs.Cells.{InRange}
use Rattle.tt_instance.specs.Courses.{no_course, no_room, course_ids, room_ids}
use Rattle.tt_instance.specs.declared.cell.Cell.{Cell}
use Rattle.tt_table.proofs.WrittenLaws.{field_is}
use Rattle.tt_changes.specs.Inner.Parts.{next_texts}
use Rattle.tt_changes.specs.Lines.{course_piece, place_pieces, entry_line, change_line}
use Rattle.tt_changes.specs.declared.change.Change.{Change}

-- all lines are put
pub all_put : {X : Type 0} (f : X → List Piece) (rows : List X) (i : ℕ) (old out : List ℕ)
    → out ≡ old ++ flat_map (λ r. line_text (f r)) (take i rows) → length rows ≤ i → out ≡ old ++ lines_text (map f rows)
all_put {X} f rows i old out so_far le =
    so_far ∙ ap (λ (z : List X). old ++ flat_map (λ (r : X). line_text (f r)) z) (take_all i rows le)
    ∙ ap (λ (z : List ℕ). old ++ z) (sym (rows_text f rows))

-- the room, the day and the period of an entry
pub place_text : (p : Problem) (e : Cell) (old a b room : List ℕ) (day period : ℕ) → InRange p e
    → slice_get (room_ids p) e.room ≡ Some room → a ≡ old ++ 32 ∷ room → day ≡ e.day → period ≡ e.period → b ≡ a ++ 32 ∷ decimal day
    → b ++ 32 ∷ decimal period ≡ old ++ next_texts (place_pieces p e)
place_text p e old a b room day period inside room_at ea day_is period_is eb =
    let room_is : room ≡ (get_or p.rooms e.room no_room).id = field_is (λ r. r.id) p.rooms e.room no_room room inside.room room_at in
    rw (eb, ea, day_is, period_is, ← room_is) (simp (append_assoc, append-nil))

-- the line of an entry
pub entry_text : (p : Problem) (e : Cell) (word old a b c course : List ℕ) → InRange p e → slice_get (course_ids p) e.course ≡ Some course
    → a ≡ old ++ word → b ≡ a ++ 32 ∷ course → c ≡ b ++ next_texts (place_pieces p e)
    → c ++ 10 ∷ [] ≡ old ++ line_text (entry_line p word e)
entry_text p e word old a b c course inside course_at ea eb ec =
    let course_is : course ≡ (get_or p.courses e.course no_course).id =
    field_is (λ c. c.id) p.courses e.course no_course course inside.course course_at in
    rw (ec, eb, ea, ← course_is) (simp append_assoc)

-- a line is its first piece, the others, each after a space, and its end
line_is : (p : Piece) (ps : List Piece) → line_text (p ∷ ps) ≡ text_of p ++ (next_texts ps ++ 10 ∷ [])
line_is p [] = refl
line_is p (q ∷ ps) =
    ap (λ z. text_of p ++ 32 ∷ z) (line_is q ps) ∙ ap (λ z. text_of p ++ 32 ∷ z) (sym (append_assoc (text_of q) (next_texts ps) (10 ∷ [])))

-- seven parts put in turn
parts_in_turn : (a b c d e f g : List ℕ) → (((((a ++ b) ++ c) ++ d) ++ e) ++ f) ++ g ≡ a ++ (b ++ ((c ++ (d ++ (e ++ f))) ++ g))
parts_in_turn a b c d e f g = simp append_assoc

-- the line of a lecture that is elsewhere
pub change_text : (p : Problem) (m : Change) (word old a b c d e course : List ℕ) → InRange p m.from
    → slice_get (course_ids p) m.from.course ≡ Some course → a ≡ old ++ word → b ≡ a ++ 32 ∷ course
    → c ≡ b ++ next_texts (place_pieces p m.from) → d ≡ c ++ 32 ∷ codes "to" → e ≡ d ++ next_texts (place_pieces p m.to)
    → e ++ 10 ∷ [] ≡ old ++ line_text (change_line p word m)
change_text p m word old a b c d e course inside course_at ea eb ec ed ee =
    let name = (get_or p.courses m.from.course no_course).id in
    let course_is : course ≡ name = field_is (λ c. c.id) p.courses m.from.course no_course course inside.course course_at in
    let from = place_pieces p m.from in
    let to = place_pieces p m.to in
    let line : line_text (change_line p word m) ≡ word ++ ((32 ∷ (name ++ (next_texts from ++ 32 ∷ (codes "to" ++ next_texts to)))) ++ 10 ∷
    []) =
    line_is (Text word) (course_piece p m.from ∷ (from ++ Text (codes "to") ∷ to))
    ∙ ap (λ (z : List ℕ). word ++ ((32 ∷ (name ++ z)) ++ 10 ∷ []))
    (flat_map-append (λ (q : Piece). 32 ∷ text_of q) from (Text (codes "to") ∷ to)) in
    let parts : e ++ 10 ∷ [] ≡ (((((old ++ word) ++ 32 ∷ name) ++ next_texts from) ++ 32 ∷ codes "to") ++ next_texts to) ++ 10 ∷ [] =
    ap (λ (z : List ℕ). z ++ 10 ∷ [])
    (ee ∙ ap (λ (z : List ℕ). z ++ next_texts to)
    (ed ∙ ap (λ (z : List ℕ). z ++ 32 ∷ codes "to")
    (ec ∙ ap (λ (z : List ℕ). z ++ next_texts from)
    (eb ∙ ap (λ (z : List ℕ). z ++ 32 ∷ course) ea ∙ ap (λ (z : List ℕ). (old ++ word) ++ 32 ∷ z) course_is)))) in
    parts ∙ parts_in_turn old word (32 ∷ name) (next_texts from) (32 ∷ codes "to") (next_texts to) (10 ∷ []) ∙ ap (λ (z : List ℕ). old ++ z)
    (sym line)
