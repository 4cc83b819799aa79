-- Rooms: those that are read are spelled, and those that are spelled are read.
use Rattle.std.proofs.Common.{◌≡◌, ℕ, false, List, [], ◌∷◌, ◌++◌, length, Ok, refl, ap, subst, ◌∙◌}
use Rattle.std.specs.List.{flat_map}
use Rattle.tt_text.specs.Tokens.{Placed}
use Rattle.tt_text.specs.Texts.{has_name}
use Rattle.tt_text.specs.Pieces.{Piece, Text, Number, Begins}
use Rattle.tt_text.proofs.Steps.{done, ok_is, bind_ok, Takes, takes_then}
use Rattle.tt_text.proofs.Fields.{ReadsOn, has_piece}
use Rattle.tt_instance_read.specs.declared.fault.InstanceFault.TheVariants as fault
use Rattle.tt_instance.specs.Problem.{Room}
use Rattle.tt_instance.specs.Columns.{room_ids_of}
use Rattle.tt_instance_read.specs.Reading.{token_at, limited_at, room_at, rooms_at}
use Rattle.tt_instance.specs.Spelling.{room_pieces}
use Rattle.tt_instance.proofs.AfterLaws.{EachAfter}
use Rattle.tt_instance_read.proofs.NextLaws.{IsNextRoom}
use Rattle.tt_instance_read.proofs.FieldLaws.{guard_passed, text_takes, limited_takes, limited_reads}
use Rattle.tt_instance_read.proofs.Repeating.{rooms_repeat}
use Rattle.tt_instance_read.proofs.SeriesLaws.{OneTaken, ManyTaken, series_takes, series_reads}

-- the result of reading this many rooms
abbrev pub RoomsTaken : ℕ → List Placed → List Room × List Placed → Type 0
RoomsTaken n ts x = ManyTaken (λ rs. rs) room_pieces IsNextRoom n [] ts x

-- one room that was read is spelled
room_takes : (end : ℕ) (before : List Room) (ts : List Placed) (x : List Room × List Placed) → Unit {0} → room_at end before ts ≡ Ok x
    → OneTaken (λ rs. rs) room_pieces IsNextRoom before ts x
unfolding room_at
room_takes end before ts x _ e =
    let id = bind_ok (token_at end ts) _ x e in
    let g = guard_passed (has_name (room_ids_of before) id.0.0.text) (fault.Repeated id.0.0.at) _ x id.2 in
    let capacity = bind_ok (limited_at end 1000000 id.0.1) _ x g.1 in
    let s = limited_takes end 1000000 id.0.1 capacity.0 capacity.1 in
    let r : Room = record { id = id.0.0.text; capacity = capacity.0.0 } in
    let pieces : Takes ts (room_pieces r) capacity.0.1 = takes_then _ _ _ _ _ (text_takes end ts id.0 id.1) s.0 in
    subst (OneTaken (λ rs. rs) room_pieces IsNextRoom before ts) (ok_is (before ++ r ∷ [], capacity.0.1) x capacity.2)
    (record { item = r; list = refl; next = record { fresh = g.0; capacity = s.1 }; takes = pieces })

-- one room that is spelled is read
room_reads : (end : ℕ) (before : List Room) (ts : List Placed) (r : Room) (qs : List Piece) (rest : List Placed) → IsNextRoom before r
    → Begins (room_pieces r ++ qs) ts rest
    → ReadsOn (room_at end before ts) (before ++ r ∷ []) qs rest
unfolding room_at
room_reads end before ts r qs rest next h =
    let q1 : List Piece = Number r.capacity ∷ qs in
    let id = has_piece (fault.Ended end) ts (Text r.id) q1 rest h in
    let capacity = limited_reads end 1000000 id.token.1 r.capacity qs rest next.capacity id.left in
    let fresh : has_name (room_ids_of before) id.token.0.text ≡ false = ap (has_name (room_ids_of before)) id.piece ∙ next.fresh in
    let made : done {A = List Room × List Placed} (before ++ record { id = id.token.0.text; capacity = r.capacity } ∷ [], capacity.mid)
    ≡ Ok (before ++ r ∷ [], capacity.mid) = rw id.piece refl in
    record { mid = capacity.mid; is = rw (id.is, fresh, capacity.is) made; left = capacity.left }

-- this many rooms that were read are spelled
pub rooms_take : (end n : ℕ) (ts : List Placed) (x : List Room × List Placed) → rooms_at end n [] ts ≡ Ok x → RoomsTaken n ts x
rooms_take end n ts x e =
    series_takes (λ rs. rs) room_pieces IsNextRoom (λ _. Unit {0}) (room_at end) (rooms_at end) (rooms_repeat end) (room_takes end)
    (λ before r fits next. tt) n [] ts x tt e

-- rooms that are spelled are read
pub rooms_read : (end : ℕ) (ts : List Placed) (rs : List Room) (qs : List Piece) (rest : List Placed) → EachAfter IsNextRoom [] rs
    → Begins (flat_map room_pieces rs ++ qs) ts rest
    → ReadsOn (rooms_at end (length rs) [] ts) rs qs rest
rooms_read end ts rs qs rest each h = series_reads (λ l. l) room_pieces IsNextRoom (room_at end) (rooms_at end) (rooms_repeat end)
    (room_reads end) [] ts rs qs rest each h
