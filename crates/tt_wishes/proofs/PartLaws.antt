-- The parts of a wish: those that are read are spelled, and those that are spelled are read.
use Rattle.std.proofs.Common.{◌≡◌, ℕ, ◌-◌, ◌<◌, Bool, true, false, cond, List, [], ◌∷◌, ◌++◌, length, map, Option, Some, None, Result, Ok, Err, refl, sym, ap, subst, ◌∙◌, append_assoc, arith, codes, inl, inr}
use Rattle.std.specs.Prelude.{◌≢◌, ◌==◌, All, IfSome}
use Rattle.std.proofs.lemmas.Bool.{both_ways, false_from_ne_true, cases_lt, eqb-false, ne_eqb}
use Rattle.std.proofs.lemmas.List.{append-nil}
use Rattle.std.proofs.lemmas.List.Elements.{All-nil, All-cons, All-head, All-tail}
use Rattle.tt_text.specs.Tokens.{Placed}
use Rattle.tt_text.specs.Texts.{index_of_name, is_text}
use Rattle.tt_text.specs.Numbers.{is_number_text, number_of}
use Rattle.tt_text.specs.Reading.{◌>>=◌}
use Rattle.tt_text.specs.Pieces.{Piece, Text, IsPiece, Begins}
use Rattle.tt_text.specs.declared.numbers.NumberFault.{NumberFault}
use Rattle.tt_text.specs.declared.numbers.NumberFault.TheVariants as number
use Rattle.tt_text.proofs.Steps.{done, ok_is, bind_ok, refusal_ok, Takes, takes_then}
use Rattle.tt_text.proofs.Fields.{ReadsOn, takes_piece, has_piece, text_is, is_text_of, number_spelled, number_read}
use Rattle.tt_instance.specs.Problem.{Problem}
use Rattle.tt_instance.specs.Courses.{no_course, no_room, course_ids, room_ids}
use Rattle.tt_instance.specs.Limits.{IsWithinLimits}
use Rattle.tt_instance.specs.Spelling.{named}
use Rattle.tt_instance.proofs.FreshLaws.{found_is, index_is}
use Rattle.tt_wishes.specs.Reading.{word_at, found, below, room_of, free_room_of, free_index_of, course_at, place_at, rooms_after, some_of, nothing_at}
use Rattle.tt_wishes.specs.Spelling.{room_name, room_piece, index_piece, place_pieces, IsPlace}
use Rattle.tt_wishes.specs.declared.fault.WishesFault.{WishesFault}
use Rattle.tt_wishes.specs.declared.fault.WishesFault.TheVariants as fault
use Rattle.tt_wishes.specs.declared.wish.Place.{Place}
use Rattle.tt_wishes.proofs.Loops.{rooms_none, rooms_step}

found_ok : (e : WishesFault) (o : Option ℕ) (i : ℕ) → found e o ≡ Ok i → o ≡ Some i
found_ok e (Some j) i h = cc
found_ok e None i h = absurd cc

-- ---- a room

pub room_takes : (p : Problem) (t : Placed) (r : ℕ) → room_of p t ≡ Ok r → (r < length p.rooms) × (t.text ≡ room_name p r)
room_takes p t r e = found_is (λ m. m.id) no_room p.rooms t.text r (found_ok _ _ r e)

pub room_reads : (p : Problem) (t : Placed) (r : ℕ) → IsWithinLimits p → r < length p.rooms → t.text ≡ room_name p r → room_of p t ≡ Ok r
room_reads p t r limits inside is =
    let at : index_of_name (room_ids p) t.text ≡ Some r =
    ap (index_of_name (room_ids p)) is ∙ index_is (λ m. m.id) no_room p.rooms limits.room_names r inside in
    rw at refl

-- a room that may be free, and its word
abbrev pub IsFreeRoom : Problem → List ℕ → Option ℕ → Type 0
IsFreeRoom p text o = IsPiece (room_piece p o) text × IfSome o (λ r. (r < length p.rooms) × (room_name p r ≢ codes "*"))

pub free_room_takes : (p : Problem) (t : Placed) (o : Option ℕ) → free_room_of p t ≡ Ok o → IsFreeRoom p t.text o
free_room_takes p t o e = by_test (is_text (codes "*") t.text) refl e
  where
    by_test : (b : Bool) → is_text (codes "*") t.text ≡ b → cond b (Ok None) (room_of p t >>= λ r. Ok (Some r)) ≡ Ok o
        → IsFreeRoom p t.text o
    by_test true is h = subst (IsFreeRoom p t.text) (ok_is {F = WishesFault} None o h) (text_is t.text (codes "*") is, tt)
    by_test false is h =
        let r = bind_ok (room_of p t) (λ r. Ok (Some r)) o h in
        let taken = room_takes p t r.0 r.1 in
        let other : room_name p r.0 ≢ codes "*" =
        λ star. both_ways (is_text (codes "*") t.text) is (is_text_of t.text (codes "*") (taken.1 ∙ star)) in
        subst (IsFreeRoom p t.text) (ok_is {F = WishesFault} (Some r.0) o r.2) (taken.1, (taken.0, other))

pub free_room_reads : (p : Problem) (t : Placed) (o : Option ℕ) → IsWithinLimits p → IsFreeRoom p t.text o → free_room_of p t ≡ Ok o
free_room_reads p t None limits h = rw (is_text_of t.text (codes "*") h.0) refl
free_room_reads p t (Some r) limits h =
    let given : is_text (codes "*") t.text ≡ false =
    false_from_ne_true (is_text (codes "*") t.text) (λ free. h.1.1 (sym h.0 ∙ text_is t.text (codes "*") free)) in
    rw (given, room_reads p t r limits h.1.0 h.0) refl

-- ---- a number below a bound

below_ok : (at : ℕ) (r : Result ℕ NumberFault) (n : ℕ) → below at r ≡ Ok n → r ≡ Ok n
below_ok at (Ok m) n e = cc
below_ok at (Err number.NotANumber) n e = absurd cc
below_ok at (Err number.TooLarge) n e = absurd cc

-- a number that may be free, and its word
abbrev pub IsFreeIndex : ℕ → List ℕ → Option ℕ → Type 0
IsFreeIndex bound text o = IsPiece (index_piece o) text × IfSome o (λ n. n < bound)

pub free_index_takes : (bound : ℕ) (t : Placed) (o : Option ℕ) → 0 < bound → free_index_of bound t ≡ Ok o → IsFreeIndex bound t.text o
free_index_takes bound t o some e = by_test (is_text (codes "*") t.text) refl e
  where
    by_test : (b : Bool) → is_text (codes "*") t.text ≡ b
        → cond b (Ok None) (below t.at (number_of (bound - 1) t.text) >>= λ n. Ok (Some n)) ≡ Ok o → IsFreeIndex bound t.text o
    by_test true is h = subst (IsFreeIndex bound t.text) (ok_is {F = WishesFault} None o h) (text_is t.text (codes "*") is, tt)
    by_test false is h =
        let n = bind_ok (below t.at (number_of (bound - 1) t.text)) (λ n. Ok (Some n)) o h in
        let s = number_spelled (bound - 1) t.text n.0 (below_ok t.at _ n.0 n.1) in
        let inside : n.0 < bound = omega (arith, s.1, some) in
        subst (IsFreeIndex bound t.text) (ok_is {F = WishesFault} (Some n.0) o n.2) (s.0, inside)

pub free_index_reads : (bound : ℕ) (t : Placed) (o : Option ℕ) → IsFreeIndex bound t.text o → free_index_of bound t ≡ Ok o
free_index_reads bound t None h = rw (is_text_of t.text (codes "*") h.0) refl
free_index_reads bound t (Some n) h =
    let given : is_text (codes "*") t.text ≡ false =
    false_from_ne_true (is_text (codes "*") t.text)
    (λ free. both_ways (is_number_text (codes "*")) refl
    (subst (λ text. is_number_text text ≡ true) (text_is t.text (codes "*") free) h.0.digits_only)) in
    rw (given, number_read (bound - 1) t.text n h.0 (omega (arith, h.1))) refl

-- ---- a course

pub record CourseTaken (p : Problem) (ts : List Placed) (x : ℕ × List Placed) : Type 0 where
  pub takes : Takes ts (named p.courses x.0 ∷ []) x.1
  pub inside : x.0 < length p.courses

pub course_takes : (end : ℕ) (p : Problem) (ts : List Placed) (x : ℕ × List Placed) → course_at end p ts ≡ Ok x → CourseTaken p ts x
unfolding course_at
course_takes end p ts x e =
    let t = bind_ok (word_at end ts) _ x e in
    let c = bind_ok (found (fault.UnknownCourse t.0.0.at) (index_of_name (course_ids p) t.0.0.text)) _ x t.2 in
    let course = found_is (λ k. k.id) no_course p.courses t.0.0.text c.0 (found_ok _ _ c.0 c.1) in
    subst (CourseTaken p ts) (ok_is (c.0, t.0.1) x c.2)
    (record { takes = takes_piece (fault.Ended end) ts t.0 (named p.courses c.0) t.1 course.1; inside = course.0 })

pub course_reads : (end : ℕ) (p : Problem) (ts : List Placed) (c : ℕ) (qs : List Piece) (rest : List Placed) → IsWithinLimits p
    → c < length p.courses → Begins (named p.courses c ∷ qs) ts rest → ReadsOn (course_at end p ts) c qs rest
unfolding course_at
course_reads end p ts c qs rest limits inside h =
    let a = has_piece (fault.Ended end) ts (named p.courses c) qs rest h in
    let course_is : index_of_name (course_ids p) a.token.0.text ≡ Some c =
    ap (index_of_name (course_ids p)) a.piece ∙ index_is (λ k. k.id) no_course p.courses limits.course_names c inside in
    record { mid = a.token.1; is = rw (a.is, course_is) refl; left = a.left }

-- ---- a place

pub record PlaceTaken (p : Problem) (ts : List Placed) (x : Place × List Placed) : Type 0 where
  pub takes : Takes ts (place_pieces p x.0) x.1
  pub is : IsPlace p x.0

pub place_takes : (end : ℕ) (p : Problem) (ts : List Placed) (x : Place × List Placed) → IsWithinLimits p → place_at end p ts ≡ Ok x
    → PlaceTaken p ts x
unfolding place_at
place_takes end p ts x limits e =
    let r = bind_ok (word_at end ts) _ x e in
    let room = bind_ok (free_room_of p r.0.0) _ x r.2 in
    let d = bind_ok (word_at end r.0.1) _ x room.2 in
    let day = bind_ok (free_index_of p.days d.0.0) _ x d.2 in
    let s = bind_ok (word_at end d.0.1) _ x day.2 in
    let period = bind_ok (free_index_of p.periods s.0.0) _ x s.2 in
    let of_room = free_room_takes p r.0.0 room.0 room.1 in
    let of_day = free_index_takes p.days d.0.0 day.0 limits.some_day day.1 in
    let of_period = free_index_takes p.periods s.0.0 period.0 limits.some_period period.1 in
    let made : Place = record { room = room.0; day = day.0; period = period.0 } in
    let first = takes_piece (fault.Ended end) ts r.0 (room_piece p room.0) r.1 of_room.0 in
    let second = takes_piece (fault.Ended end) r.0.1 d.0 (index_piece day.0) d.1 of_day.0 in
    let third = takes_piece (fault.Ended end) d.0.1 s.0 (index_piece period.0) s.1 of_period.0 in
    let whole : Takes ts (place_pieces p made) s.0.1 = takes_then _ _ _ _ _ first (takes_then _ _ _ _ _ second third) in
    subst (PlaceTaken p ts) (ok_is (made, s.0.1) x period.2)
    (record { takes = whole; is = record { room = of_room.1; day = of_day.1; period = of_period.1 } })

pub place_reads : (end : ℕ) (p : Problem) (ts : List Placed) (g : Place) (qs : List Piece) (rest : List Placed) → IsWithinLimits p
    → IsPlace p g → Begins (place_pieces p g ++ qs) ts rest → ReadsOn (place_at end p ts) g qs rest
unfolding place_at
place_reads end p ts g qs rest limits inside h =
    let a = has_piece (fault.Ended end) ts (room_piece p g.room) (index_piece g.day ∷ index_piece g.period ∷ qs) rest h in
    let b = has_piece (fault.Ended end) a.token.1 (index_piece g.day) (index_piece g.period ∷ qs) rest a.left in
    let c = has_piece (fault.Ended end) b.token.1 (index_piece g.period) qs rest b.left in
    let room_is = free_room_reads p a.token.0 g.room limits (a.piece, inside.room) in
    let day_is = free_index_reads p.days b.token.0 g.day (b.piece, inside.day) in
    let period_is = free_index_reads p.periods c.token.0 g.period (c.piece, inside.period) in
    record { mid = c.token.1; is = rw (a.is, room_is, b.is, day_is, c.is, period_is) refl; left = c.left }

-- ---- the rooms of a course

-- the pieces of rooms
abbrev pub room_names : Problem → List ℕ → List Piece
room_names p rooms = map (λ r. Text (room_name p r)) rooms

-- the rooms that were read after those before
pub record RoomsTaken (p : Problem) (before : List ℕ) (ts : List Placed) (all : List ℕ) : Type 0 where
  pub rooms : List ℕ
  pub list : all ≡ before ++ rooms
  pub spelled : Begins (room_names p rooms) ts []
  pub each : All (λ r. r < length p.rooms) rooms

pub rooms_take : (p : Problem) (before : List ℕ) (ts : List Placed) (all : List ℕ) → rooms_after p before ts ≡ Ok all
    → RoomsTaken p before ts all
unfolding rooms_after
rooms_take p before [] all e =
    record {
      rooms = [];
      list = sym (ok_is before all e) ∙ sym (append-nil before);
      spelled = refl;
      each = All-nil (λ r. r < length p.rooms);
    }
rooms_take p before (t ∷ ts) all e =
    let one = bind_ok (room_of p t) (λ r. rooms_after p (before ++ r ∷ []) ts) all e in
    let taken = room_takes p t one.0 one.1 in
    let more = rooms_take p (before ++ one.0 ∷ []) ts all one.2 in
    record {
      rooms = one.0 ∷ more.rooms;
      list = more.list ∙ append_assoc before (one.0 ∷ []) more.rooms;
      spelled = (taken.1, more.spelled);
      each = All-cons (λ r. r < length p.rooms) one.0 more.rooms taken.0 more.each;
    }

pub rooms_read : (p : Problem) (before rooms : List ℕ) (ts : List Placed) → IsWithinLimits p → All (λ r. r < length p.rooms) rooms
    → Begins (room_names p rooms) ts [] → rooms_after p before ts ≡ Ok (before ++ rooms)
rooms_read p before [] ts limits each h = rooms_none p before ts h ∙ ap (λ (l : List ℕ). done l) (sym (append-nil before))
rooms_read p before (r ∷ rs) [] limits each h = absurd h
rooms_read p before (r ∷ rs) (t ∷ ts) limits each h =
    let is = room_reads p t r limits (All-head (λ k. k < length p.rooms) r rs each) h.0 in
    let more = rooms_read p (before ++ r ∷ []) rs ts limits (All-tail (λ k. k < length p.rooms) r rs each) h.1 in
    rooms_step p before (t ∷ ts) t ts r refl is ∙ more ∙ ap (λ (l : List ℕ). done l) (append_assoc before (r ∷ []) rs)

pub some_ok : (end : ℕ) (rs xs : List ℕ) → some_of end rs ≡ Ok xs → (rs ≡ xs) × (0 < length xs)
some_ok end rs xs e =
    let some = refusal_ok (length rs == 0) (fault.Ended end) (Ok rs) xs e in
    let same : rs ≡ xs = ok_is rs xs some.1 in
    let long : length xs ≡ length rs = ap length (sym same) in (
      same,
      elim (cases_lt 0 (length xs)) [
        | inl h ↦ h
        | inr h ↦ absurd (eqb-false (length rs) 0 some.0 (omega (arith, h, long)))
      ],
    )

pub some_is : (end : ℕ) (rs : List ℕ) → 0 < length rs → some_of end rs ≡ Ok rs
some_is end rs h = rw (ne_eqb (length rs) 0 (λ e. omega (arith, h, e))) refl

-- ---- no word

pub nothing_ok : (ts rest : List Placed) → nothing_at ts ≡ Ok rest → ts ≡ []
unfolding nothing_at
nothing_ok [] rest e = refl
nothing_ok (t ∷ ts) rest e = absurd cc

pub nothing_is : (ts : List Placed) → ts ≡ [] → nothing_at ts ≡ Ok []
unfolding nothing_at
nothing_is ts none = rw none refl
