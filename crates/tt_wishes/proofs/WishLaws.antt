-- A wish: one that is read is spelled, and one that is spelled is read.
use Rattle.std.proofs.Common.{◌≡◌, ℕ, ◌<◌, Bool, true, false, cond, List, [], ◌∷◌, length, Ok, Err, refl, sym, ap, subst, ◌∙◌, codes}
use Rattle.std.specs.Prelude.{All}
use Rattle.tt_text.specs.Tokens.{Placed}
use Rattle.tt_text.specs.Texts.{is_text}
use Rattle.tt_text.specs.Pieces.{Begins}
use Rattle.tt_text.proofs.Steps.{ok_is, bind_ok, Takes, takes_then}
use Rattle.tt_text.proofs.Fields.{text_is}
use Rattle.tt_instance.specs.Problem.{Problem}
use Rattle.tt_instance.specs.Limits.{IsWithinLimits}
use Rattle.tt_instance.specs.Spelling.{named}
use Rattle.tt_wishes.specs.Reading.{course_at, place_at, rooms_after, some_of, nothing_at, hold_at, only_in_at, closed_at, wish_word_of, wish_of, wish_at}
use Rattle.tt_wishes.specs.Spelling.{place_pieces, wish_pieces, IsPlace, IsWish}
use Rattle.tt_wishes.specs.declared.fault.WishesFault.{WishesFault}
use Rattle.tt_wishes.specs.declared.fault.WishesFault.TheVariants as fault
use Rattle.tt_wishes.specs.declared.reading.WishWord.{WishWord}
use Rattle.tt_wishes.specs.declared.reading.WishWord.TheVariants as word
use Rattle.tt_wishes.specs.declared.wish.Place.{Place}
use Rattle.tt_wishes.specs.declared.wish.Wish.{Wish}
use Rattle.tt_wishes.specs.declared.wish.Wish.TheVariants.{Hold, Rooms, Closed}
use Rattle.tt_wishes.proofs.PartLaws.{course_takes, course_reads, place_takes, place_reads, room_names, rooms_take, rooms_read, some_ok, some_is, nothing_ok, nothing_is}

-- ---- the first word

-- the text of a first word
abbrev pub text_of : WishWord → List ℕ
text_of word.Hold = codes "hold"
text_of word.Room = codes "room"
text_of word.Closed = codes "closed"

word_ok : (t : Placed) (k : WishWord) → wish_word_of t ≡ Ok k → t.text ≡ text_of k
word_ok t k e = first (is_text (codes "hold") t.text) refl e
  where
    third : (b : Bool) → is_text (codes "closed") t.text ≡ b → cond b (Ok word.Closed) (Err (fault.UnknownWord t.at)) ≡ Ok k
        → t.text ≡ text_of k
    third true is h = subst (λ j. t.text ≡ text_of j) (ok_is {F = WishesFault} word.Closed k h) (text_is t.text (codes "closed") is)
    third false is h = absurd cc

    second : (b : Bool) → is_text (codes "room") t.text ≡ b
        → cond b (Ok word.Room) (cond (is_text (codes "closed") t.text) (Ok word.Closed) (Err (fault.UnknownWord t.at))) ≡ Ok k
        → t.text ≡ text_of k
    second true is h = subst (λ j. t.text ≡ text_of j) (ok_is {F = WishesFault} word.Room k h) (text_is t.text (codes "room") is)
    second false is h = third (is_text (codes "closed") t.text) refl h

    first : (b : Bool) → is_text (codes "hold") t.text ≡ b
        → cond b (Ok word.Hold) (cond (is_text (codes "room") t.text) (Ok word.Room)
        (cond (is_text (codes "closed") t.text) (Ok word.Closed) (Err (fault.UnknownWord t.at)))) ≡ Ok k
        → t.text ≡ text_of k
    first true is h = subst (λ j. t.text ≡ text_of j) (ok_is {F = WishesFault} word.Hold k h) (text_is t.text (codes "hold") is)
    first false is h = second (is_text (codes "room") t.text) refl h

word_is : (t : Placed) (k : WishWord) → t.text ≡ text_of k → wish_word_of t ≡ Ok k
word_is t word.Hold e = ap (λ (text : List ℕ). wish_word_of (record { text = text; at = t.at })) e
word_is t word.Room e = ap (λ (text : List ℕ). wish_word_of (record { text = text; at = t.at })) e
word_is t word.Closed e = ap (λ (text : List ℕ). wish_word_of (record { text = text; at = t.at })) e

-- ---- each kind of wish

-- the words are those of the wish
abbrev pub IsSpelled : Problem → Placed → List Placed → Wish → Type 0
IsSpelled p first ts w = Begins (wish_pieces p w) (first ∷ ts) [] × IsWish p w

hold_takes : (end : ℕ) (p : Problem) (first : Placed) (ts : List Placed) (w : Wish) → IsWithinLimits p → first.text ≡ codes "hold"
    → hold_at end p ts ≡ Ok w → IsSpelled p first ts w
unfolding hold_at
hold_takes end p first ts w limits is e =
    let c = bind_ok (course_at end p ts) _ w e in
    let g = bind_ok (place_at end p c.0.1) _ w c.2 in
    let n = bind_ok (nothing_at g.0.1) _ w g.2 in
    let course = course_takes end p ts c.0 c.1 in
    let place = place_takes end p c.0.1 g.0 limits g.1 in
    let whole : Takes ts (named p.courses c.0.0 ∷ place_pieces p g.0.0) g.0.1 = takes_then _ _ _ _ _ course.takes place.takes in
    subst (IsSpelled p first ts) (ok_is (Hold c.0.0 g.0.0) w n.2)
    ((is, whole.take [] [] (nothing_ok g.0.1 n.0 n.1)), (course.inside, place.is))

only_in_takes : (end : ℕ) (p : Problem) (first : Placed) (ts : List Placed) (w : Wish) → IsWithinLimits p → first.text ≡ codes "room"
    → only_in_at end p ts ≡ Ok w → IsSpelled p first ts w
unfolding only_in_at
only_in_takes end p first ts w limits is e =
    let c = bind_ok (course_at end p ts) _ w e in
    let all = bind_ok (rooms_after p [] c.0.1) _ w c.2 in
    let some = bind_ok (some_of end all.0) _ w all.2 in
    let course = course_takes end p ts c.0 c.1 in
    let taken = rooms_take p [] c.0.1 all.0 all.1 in
    let listed = some_ok end all.0 some.0 some.1 in
    let rooms : taken.rooms ≡ some.0 = sym taken.list ∙ listed.0 in
    let named_rooms = subst (λ (rs : List ℕ). Begins (room_names p rs) c.0.1 []) rooms taken.spelled in
    let inside = subst (λ (rs : List ℕ). All (λ r. r < length p.rooms) rs) rooms taken.each in
    subst (IsSpelled p first ts) (ok_is (Rooms c.0.0 some.0) w some.2)
    ((is, course.takes.take (room_names p some.0) [] named_rooms), (course.inside, record { some = listed.1; each = inside }))

closed_takes : (end : ℕ) (p : Problem) (first : Placed) (ts : List Placed) (w : Wish) → IsWithinLimits p → first.text ≡ codes "closed"
    → closed_at end p ts ≡ Ok w → IsSpelled p first ts w
unfolding closed_at
closed_takes end p first ts w limits is e =
    let g = bind_ok (place_at end p ts) _ w e in
    let n = bind_ok (nothing_at g.0.1) _ w g.2 in
    let place = place_takes end p ts g.0 limits g.1 in
    subst (IsSpelled p first ts) (ok_is (Closed g.0.0) w n.2)
    ((is, place.takes.take [] [] (nothing_ok g.0.1 n.0 n.1)), place.is)

-- a wish of a kind
kind_takes : (k : WishWord) (end : ℕ) (p : Problem) (first : Placed) (ts : List Placed) (w : Wish) → IsWithinLimits p
    → first.text ≡ text_of k → wish_of k end p ts ≡ Ok w → IsSpelled p first ts w
kind_takes word.Hold end p first ts w limits is e = hold_takes end p first ts w limits is e
kind_takes word.Room end p first ts w limits is e = only_in_takes end p first ts w limits is e
kind_takes word.Closed end p first ts w limits is e = closed_takes end p first ts w limits is e

-- a wish that is read is spelled
pub wish_takes : (end : ℕ) (p : Problem) (first : Placed) (ts : List Placed) (w : Wish) → IsWithinLimits p
    → wish_at end p first ts ≡ Ok w → IsSpelled p first ts w
unfolding wish_at
wish_takes end p first ts w limits e =
    let k = bind_ok (wish_word_of first) _ w e in
    kind_takes k.0 end p first ts w limits (word_ok first k.0 k.1) k.2

-- ---- a wish that is spelled is read

hold_reads : (end : ℕ) (p : Problem) (ts : List Placed) (c : ℕ) (g : Place) → IsWithinLimits p → c < length p.courses → IsPlace p g
    → Begins (named p.courses c ∷ place_pieces p g) ts [] → hold_at end p ts ≡ Ok (Hold c g)
unfolding hold_at
hold_reads end p ts c g limits course place h =
    let a = course_reads end p ts c (place_pieces p g) [] limits course h in
    let b = place_reads end p a.mid g [] [] limits place a.left in
    rw (a.is, b.is, nothing_is b.mid b.left) refl

only_in_reads : (end : ℕ) (p : Problem) (ts : List Placed) (c : ℕ) (rooms : List ℕ) → IsWithinLimits p → c < length p.courses
    → 0 < length rooms → All (λ r. r < length p.rooms) rooms → Begins (named p.courses c ∷ room_names p rooms) ts []
    → only_in_at end p ts ≡ Ok (Rooms c rooms)
unfolding only_in_at
only_in_reads end p ts c rooms limits course some each h =
    let a = course_reads end p ts c (room_names p rooms) [] limits course h in
    rw (a.is, rooms_read p [] rooms a.mid limits each a.left, some_is end rooms some) refl

closed_reads : (end : ℕ) (p : Problem) (ts : List Placed) (g : Place) → IsWithinLimits p → IsPlace p g → Begins (place_pieces p g) ts []
    → closed_at end p ts ≡ Ok (Closed g)
unfolding closed_at
closed_reads end p ts g limits place h =
    let b = place_reads end p ts g [] [] limits place h in
    rw (b.is, nothing_is b.mid b.left) refl

-- a wish that is spelled is read
pub wish_reads : (end : ℕ) (p : Problem) (first : Placed) (ts : List Placed) (w : Wish) → IsWithinLimits p → IsSpelled p first ts w
    → wish_at end p first ts ≡ Ok w
unfolding wish_at
wish_reads end p first ts (Hold c g) limits h =
    rw (word_is first word.Hold h.0.0) (hold_reads end p ts c g limits h.1.0 h.1.1 h.0.1)
wish_reads end p first ts (Rooms c rooms) limits h =
    rw (word_is first word.Room h.0.0) (only_in_reads end p ts c rooms limits h.1.0 h.1.1.some h.1.1.each h.0.1)
wish_reads end p first ts (Closed g) limits h =
    rw (word_is first word.Closed h.0.0) (closed_reads end p ts g limits h.1 h.0.1)
