-- The text of a timetable is read as that timetable.
use Rattle.std.proofs.Common.{◌≡◌, ℕ, ◌<◌, ◌≤◌, List, [], ◌∷◌, ◌++◌, length, get_or, slice_get, map, Some, refl, sym, ap, subst, ◌∙◌, append_assoc, arith}
use Rattle.std.specs.Prelude.{flat_map, IfOk, Result, Ok, Err}
use Rattle.std.specs.Option.{option_map}
use Rattle.std.specs.Fmt.{decimal}
use Rattle.std.proofs.lemmas.List.{get_or_default}
use Rattle.std.proofs.lemmas.Option.{slice_get-map, slice_get_read}
use Rattle.std.proofs.lemmas.List.Elements.{All-head, All-tail, All-get_or}
use Rattle.tt_text.specs.Tokens.{IsToken, tokens_of}
use Rattle.tt_text.specs.Pieces.{Piece, Begins}
use Rattle.tt_text.specs.Lines.{line_text, all_pieces, LinesWritable}
use Rattle.tt_text.proofs.Lines.{lines_begin}
use Rattle.tt_instance.specs.Problem.{Course, Room, Problem}
use Rattle.tt_instance.specs.Cells.{InRange}
use Rattle.tt_instance.specs.Courses.{no_course, no_room, course_ids, room_ids}
use Rattle.tt_instance.specs.Limits.{IsInstance}
use Rattle.tt_instance.specs.declared.cell.Cell.{Cell}
use Rattle.tt_table.specs.Table.{IsTimetable}
use Rattle.tt_table.specs.Spelling.{entry_pieces, SpellsTable, solution_text}

writable : (p : Problem) (is : IsInstance p) (t : List Cell) → IsTimetable p t → LinesWritable (map (entry_pieces p) t)
writable p is [] inside = tt
writable p is (e ∷ es) inside =
    let here = All-head (InRange p) e es inside in
    let course : IsToken (get_or p.courses e.course no_course).id =
    (All-get_or (λ (c : Course). IsToken c.id × IsToken c.teacher) p.courses e.course no_course here.course is.course_tokens).0 in
    let room : IsToken (get_or p.rooms e.room no_room).id =
    All-get_or (λ (r : Room). IsToken r.id) p.rooms e.room no_room here.room is.room_tokens in (
      (course, (room, (omega (arith, here.day, is.within.days), (omega (arith, here.period, is.within.periods), tt)))),
      writable p is es (All-tail (InRange p) e es inside),
    )

one_line_each : (p : Problem) (t : List Cell) → all_pieces (map (entry_pieces p) t) ≡ flat_map (entry_pieces p) t
one_line_each p [] = refl
one_line_each p (e ∷ es) = ap (λ (ps : List Piece). entry_pieces p e ++ ps) (one_line_each p es)

-- a field that a getter returned is the one of the definitions
pub field_is : {X Y : Type 0} (f : X → Y) (xs : List X) (i : ℕ) (d : X) (y : Y) → i < length xs → slice_get (map f xs) i ≡ Some y
    → y ≡ f (get_or xs i d)
field_is f xs i d y lt e =
    let x = get_or xs i d in
    let at : slice_get xs i ≡ Some x = slice_get_read xs (length xs) i x refl lt (get_or_default xs i d x lt) in
    let both : slice_get (map f xs) i ≡ Some (f x) = slice_get-map f xs i ∙ ap (option_map f) at in
    cc

pub entry_text : (p : Problem) (e : Cell) (old a b c d course room : List ℕ) (day period : ℕ) → InRange p e
    → slice_get (course_ids p) e.course ≡ Some course → slice_get (room_ids p) e.room ≡ Some room
    → a ≡ old ++ course → b ≡ a ++ 32 ∷ room → day ≡ e.day → period ≡ e.period → c ≡ b ++ 32 ∷ decimal day → d ≡ c ++ 32 ∷ decimal period
    → d ++ 10 ∷ [] ≡ old ++ line_text (entry_pieces p e)
entry_text p e old a b c d course room day period inside course_at room_at ea eb day_is period_is ec ed =
    let course_is : course ≡ (get_or p.courses e.course no_course).id =
    field_is (λ c. c.id) p.courses e.course no_course course inside.course course_at in
    let room_is : room ≡ (get_or p.rooms e.room no_room).id = field_is (λ r. r.id) p.rooms e.room no_room room inside.room room_at in
    rw (ed, ec, eb, ea, day_is, period_is, ← course_is, ← room_is) (simp append_assoc)

pub solution_again : (p : Problem) (t : List Cell) → IsInstance p → IsTimetable p t → length t ≤ 16384 → SpellsTable p (solution_text p t) t
solution_again p t is inside at_most = record {
  tokens = subst (λ (ps : List Piece). Begins ps (tokens_of (solution_text p t)) []) (one_line_each p t)
      (lines_begin (map (entry_pieces p) t) 0 (writable p is t inside));
  at_most = at_most;
  in_range = inside;
}

pub again_in : {X F : Type 0} (items : X → List ℕ) (p : Problem) (t : List Cell) (r : Result X F) → IsInstance p → IsTimetable p t
    → length t ≤ 16384 → IfOk r (λ out. items out ≡ solution_text p t)
    → IfOk r (λ out. SpellsTable p (items out) t)
again_in items p t (Ok out) is inside at_most text = subst (λ (bytes : List ℕ). SpellsTable p bytes t) (sym text)
    (solution_again p t is inside at_most)
again_in items p t (Err e) is inside at_most text = tt
