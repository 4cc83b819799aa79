-- The places of facts in the table, and the changes by another fact.
use Rattle.std.proofs.Common.{◌≡◌, ℕ, ◌+◌, ◌%◌, ◌<◌, ◌≤◌, Bool, true, false, cond, ◌&&◌, ◌||◌, List, [], ◌∷◌, ◌++◌, Option, Some, None, length, refl, sym, ap, ◌∙◌, arith, inl, inr, ne_eqb}
use Rattle.std.specs.Prelude.{◌==◌, nat_lt}
use Rattle.std.proofs.Math.Bool.{or-false, and-false, and-true}
use Rattle.std.proofs.lemmas.Bool.{cases_Bool, ltb-true, and_parts, false_from_ne_true}
use Rattle.std.proofs.lemmas.Map.Views.{any-filter_same}
use Rattle.std.proofs.lemmas.List.{append-nil}
use Rattle.std.proofs.lemmas.List.Elements.{filter-append}
use Rattle.std.proofs.lemmas.List.Folds.{list_any-append}
use Rattle.tt_list_laws.proofs.Tests.{same_test, test_turned}
use Rattle.tt_instance.specs.Problem.{Problem}
use Rattle.tt_path.specs.Facts.{same_answer, same_option, same_who, same_pattern, has_fact}
use Rattle.tt_path.specs.declared.facts.Who.{Who}
use Rattle.tt_path.specs.declared.facts.Who.TheVariants.{Course, Curriculum}
use Rattle.tt_path.specs.declared.facts.Pattern.{Pattern}
use Rattle.tt_path.specs.declared.facts.Fact.{Fact}
use Rattle.tt_path.proofs.Same.{same_answer-true, same_option-true, same_who-true}
use Rattle.tt_path_pins.specs.declared.bit_places.BitPlace.{BitPlace}
use Rattle.tt_path_pins.specs.Inner.Sets.{has_at}
use Rattle.tt_path_pins.specs.Inner.Tables.{width, Adds}
use Rattle.tt_path_pins.specs.Inner.FactTable.{fact_row, fact_rows, open_place, open_size, slot_row, closed_place, bit_place_in, bit_place_of, bit_place_at, is_nowhere, unplaced_of, is_fact, ShowsFacts, AddsFact}
use Rattle.tt_path_pins.proofs.Grid.{same_day, same_room, room_within, apart, apart_back}
use Rattle.tt_list_laws.proofs.Grid.{within_row}

-- ---- facts that are the same

-- equal facts have the same place
bit_place_of-same : (p : Problem) (g : Pattern) (holds : Bool) (f : Fact) → is_fact g holds f ≡ true
    → bit_place_at p f.pattern f.holds ≡ bit_place_at p g holds
bit_place_of-same p g holds f e =
    let a = and_parts (same_answer f.holds holds) (same_pattern f.pattern g) e in
    let b = and_parts (same_who f.pattern.who g.who && same_option f.pattern.room g.room && same_option f.pattern.day g.day)
    (same_option f.pattern.period g.period) a.1 in
    let d = and_parts (same_who f.pattern.who g.who && same_option f.pattern.room g.room) (same_option f.pattern.day g.day) b.0 in
    let r = and_parts (same_who f.pattern.who g.who) (same_option f.pattern.room g.room) d.0 in
    ap (λ h. bit_place_of p h f.pattern.who f.pattern.room f.pattern.day f.pattern.period) (same_answer-true f.holds holds a.0)
    ∙ ap (λ w. bit_place_of p holds w f.pattern.room f.pattern.day f.pattern.period) (same_who-true f.pattern.who g.who r.0)
    ∙ ap (λ w. bit_place_of p holds g.who w f.pattern.day f.pattern.period) (same_option-true f.pattern.room g.room r.1)
    ∙ ap (λ w. bit_place_of p holds g.who g.room w f.pattern.period) (same_option-true f.pattern.day g.day d.1)
    ∙ ap (λ w. bit_place_of p holds g.who g.room g.day w) (same_option-true f.pattern.period g.period b.1)

-- -- what a place says about its fact

record Usual (p : Problem) (holds : Bool) (who : Who) (room day period : Option ℕ) (x : BitPlace) : Type 0 where
  course : ℕ
  on : ℕ
  at : ℕ
  who_is : who ≡ Course course
  day_is : day ≡ Some on
  period_is : period ≡ Some at
  course_there : course < length p.courses
  day_there : on < p.days
  period_there : at < p.periods
  bit_place : bit_place_in p holds course on at room ≡ Some x

usual : (p : Problem) (holds : Bool) (who : Who) (room day period : Option ℕ) (x : BitPlace)
    → bit_place_of p holds who room day period ≡ Some x → Usual p holds who room day period x
usual p holds (Curriculum q) room day period x e = cc
usual p holds (Course c) room None period x e = cc
usual p holds (Course c) room (Some d) None x e = cc
usual p holds (Course c) room (Some d) (Some s) x e =
    let test = nat_lt c (length p.courses) && nat_lt d p.days && nat_lt s p.periods in
    elim (cases_Bool test) [
      | inl t ↦
          let a = and_parts (nat_lt c (length p.courses) && nat_lt d p.days) (nat_lt s p.periods) t in
          let b = and_parts (nat_lt c (length p.courses)) (nat_lt d p.days) a.0 in
          record {
            course = c;
            on = d;
            at = s;
            who_is = refl;
            day_is = refl;
            period_is = refl;
            course_there = ltb-true c (length p.courses) b.0;
            day_there = ltb-true d p.days b.1;
            period_there = ltb-true s p.periods a.1;
            bit_place = sym (ap (λ v. cond v (bit_place_in p holds c d s room) None) t) ∙ e;
          }
      | inr t ↦ nowhere (sym (ap (λ v. cond v (bit_place_in p holds c d s room) None) t) ∙ e)
    ]
  where
    nowhere : None ≡ Some x → Usual p holds (Course c) room (Some d) (Some s) x
    nowhere n = cc

record Closed (p : Problem) (holds : Bool) (c d s r : ℕ) (x : BitPlace) : Type 0 where
  room_there : r < length p.rooms
  bit_place_is : record { place = closed_place p holds c d s r; number = r % 64 } ≡ x

closed : (p : Problem) (holds : Bool) (c d s r : ℕ) (x : BitPlace) → bit_place_in p holds c d s (Some r) ≡ Some x → Closed p holds c d s r x
closed p holds c d s r x e = elim (cases_Bool (nat_lt r (length p.rooms))) [
  | inl t ↦ record { room_there = ltb-true r (length p.rooms) t; bit_place_is = inside (sym (ap (λ v. cond v (Some at) None) t) ∙ e) }
  | inr t ↦ nowhere (sym (ap (λ v. cond v (Some at) None) t) ∙ e)
]
  where
    at : BitPlace
    at = record { place = closed_place p holds c d s r; number = r % 64 }

    inside : Some at ≡ Some x → at ≡ x
    inside n = cc

    nowhere : None ≡ Some x → Closed p holds c d s r x
    nowhere n = cc

-- -- each place belongs to one fact

same_fact_row : (p : Problem) (h h0 : Bool) (c c0 : ℕ) → c < length p.courses → c0 < length p.courses
    → (fact_row p h c == fact_row p h0 c0) ≡ (same_answer h0 h && (c0 == c))
same_fact_row p true true c c0 l k = same_test (length p.courses + c) (length p.courses + c0) c0 c (λ e. omega arith) (λ e. omega arith)
same_fact_row p true false c c0 l k = ne_eqb (length p.courses + c) (0 + c0) (λ e. omega arith)
same_fact_row p false true c c0 l k = ne_eqb (0 + c) (length p.courses + c0) (λ e. omega arith)
same_fact_row p false false c c0 l k = same_test (0 + c) (0 + c0) c0 c (λ e. omega arith) (λ e. omega arith)

row_there : (p : Problem) (h : Bool) (c : ℕ) → c < length p.courses → fact_row p h c < fact_rows p
row_there p true c l = omega arith
row_there p false c l = omega arith

open_there : (p : Problem) (h : Bool) (c d : ℕ) → c < length p.courses → d < p.days → open_place p h c d < open_size p
open_there p h c d l k = within_row (fact_row p h c) p.days d (fact_rows p) (row_there p h c l) k

same_open : (p : Problem) (h h0 : Bool) (c d c0 d0 : ℕ) → c < length p.courses → c0 < length p.courses → d < p.days → d0 < p.days
    → (open_place p h c d == open_place p h0 c0 d0) ≡ ((same_answer h0 h && (c0 == c)) && (d0 == d))
same_open p h h0 c d c0 d0 hc hc0 hd hd0 = same_day (fact_row p h c) d (fact_row p h0 c0) d0 p.days hd hd0
    ∙ ap (λ b. b && (d0 == d)) (same_fact_row p h h0 c c0 hc hc0)

in_order : (a c d s : Bool) → (((a && c) && d) && s) ≡ (a && ((c && true && d) && s))
in_order true true d s = refl
in_order true false d s = refl
in_order false c d s = refl

other_room : (a c d s : Bool) → (a && ((c && false && d) && s)) ≡ false
other_room true true d s = refl
other_room true false d s = refl
other_room false c d s = refl

in_order_too : (a c d s r : Bool) → ((((a && c) && d) && s) && r) ≡ (a && (((c && r) && d) && s))
in_order_too true true d s true = and-true (d && s)
in_order_too true true d s false = and-false (d && s)
in_order_too true false d s r = refl
in_order_too false c d s r = refl

is_bit_place : BitPlace → BitPlace → Bool
is_bit_place x y = (x.place == y.place) && (x.number == y.number)

module _ (p : Problem) (h h0 : Bool) (c d s c0 d0 s0 : ℕ) (hc : c < length p.courses) (hc0 : c0 < length p.courses) (hd : d < p.days)
    (hd0 : d0 < p.days) (hs : s < p.periods) (hs0 : s0 < p.periods) where
  same_bit_place_in : (room room0 : Option ℕ) (x y : BitPlace) → bit_place_in p h c d s room ≡ Some x
      → bit_place_in p h0 c0 d0 s0 room0 ≡ Some y
      → ((x.place == y.place) && (x.number == y.number)) ≡
      (same_answer h0 h && (((c0 == c) && same_option room0 room && (d0 == d)) && (s0 == s)))
  same_bit_place_in None None x y e f =
      let ex : record { place = open_place p h c d; number = s } ≡ x = cc in
      let ey : record { place = open_place p h0 c0 d0; number = s0 } ≡ y = cc in
      ap (λ (z : BitPlace). (z.place == y.place) && (z.number == y.number)) (sym ex)
      ∙ ap (λ (z : BitPlace). (open_place p h c d == z.place) && (s == z.number)) (sym ey)
      ∙ ap (λ b. b && (s == s0)) (same_open p h h0 c d c0 d0 hc hc0 hd hd0)
      ∙ ap (λ b. ((same_answer h0 h && (c0 == c)) && (d0 == d)) && b) (test_turned s s0)
      ∙ in_order (same_answer h0 h) (c0 == c) (d0 == d) (s0 == s)
  same_bit_place_in None (Some r0) x y e f =
      let ex : record { place = open_place p h c d; number = s } ≡ x = cc in
      let y_is = closed p h0 c0 d0 s0 r0 y f in
      ap (λ (z : BitPlace). (z.place == y.place) && (z.number == y.number)) (sym ex)
      ∙ ap (λ (z : BitPlace). (open_place p h c d == z.place) && (s == z.number)) (sym y_is.bit_place_is)
      ∙ ap (λ b. b && (s == r0 % 64)) (apart (open_place p h c d) (closed_place p h0 c0 d0 s0 r0) (open_size p)
      (open_there p h c d hc hd) (omega arith))
      ∙ sym (other_room (same_answer h0 h) (c0 == c) (d0 == d) (s0 == s))
  same_bit_place_in (Some r) None x y e f =
      let x_is = closed p h c d s r x e in
      let ey : record { place = open_place p h0 c0 d0; number = s0 } ≡ y = cc in
      ap (λ (z : BitPlace). (z.place == y.place) && (z.number == y.number)) (sym x_is.bit_place_is)
      ∙ ap (λ (z : BitPlace). (closed_place p h c d s r == z.place) && (r % 64 == z.number)) (sym ey)
      ∙ ap (λ b. b && (r % 64 == s0)) (apart_back (open_place p h0 c0 d0) (closed_place p h c d s r) (open_size p)
      (open_there p h0 c0 d0 hc0 hd0) (omega arith))
      ∙ sym (other_room (same_answer h0 h) (c0 == c) (d0 == d) (s0 == s))
  same_bit_place_in (Some r) (Some r0) x y e f =
      let x_is = closed p h c d s r x e in
      let y_is = closed p h0 c0 d0 s0 r0 y f in
      let row = slot_row p h c d s in
      let row0 = slot_row p h0 c0 d0 s0 in
      ap (λ (z : BitPlace). (z.place == y.place) && (z.number == y.number)) (sym x_is.bit_place_is)
      ∙ ap (λ (z : BitPlace). (closed_place p h c d s r == z.place) && (r % 64 == z.number)) (sym y_is.bit_place_is)
      ∙ same_room (open_size p) (width p) row r row0 r0 (room_within p r x_is.room_there) (room_within p r0 y_is.room_there)
      ∙ ap (λ b. b && (r0 == r)) (test_turned row0 row ∙ same_day (open_place p h c d) s (open_place p h0 c0 d0) s0 p.periods hs hs0)
      ∙ ap (λ b. (b && (s0 == s)) && (r0 == r)) (same_open p h h0 c d c0 d0 hc hc0 hd hd0)
      ∙ in_order_too (same_answer h0 h) (c0 == c) (d0 == d) (s0 == s) (r0 == r)

-- two facts have the same place exactly if they are equal
same_bit_place : (p : Problem) (g : Pattern) (holds : Bool) (f : Fact) (x y : BitPlace) → bit_place_at p g holds ≡ Some x
    → bit_place_at p f.pattern f.holds ≡ Some y → ((x.place == y.place) && (x.number == y.number)) ≡ is_fact g holds f
same_bit_place p g holds f x y e k =
    let a = usual p holds g.who g.room g.day g.period x e in
    let b = usual p f.holds f.pattern.who f.pattern.room f.pattern.day f.pattern.period y k in
    same_bit_place_in p holds f.holds a.course a.on a.at b.course b.on b.at a.course_there b.course_there a.day_there b.day_there
    a.period_there b.period_there g.room f.pattern.room x y a.bit_place b.bit_place
    ∙ ap (λ t. same_answer f.holds holds && (((b.course == a.course) && same_option f.pattern.room g.room && t) && (b.at == a.at)))
    (ap (λ w. same_option w (Some a.on)) (sym b.day_is) ∙ ap (same_option f.pattern.day) (sym a.day_is))
    ∙ ap (λ t. same_answer f.holds holds &&
    (((b.course == a.course) && same_option f.pattern.room g.room && same_option f.pattern.day g.day) && t))
    (ap (λ w. same_option w (Some a.at)) (sym b.period_is) ∙ ap (same_option f.pattern.period) (sym a.period_is))
    ∙ ap (λ t. same_answer f.holds holds &&
    ((t && same_option f.pattern.room g.room && same_option f.pattern.day g.day) && same_option f.pattern.period g.period))
    (ap (λ w. same_who w (Course a.course)) (sym b.who_is) ∙ ap (same_who f.pattern.who) (sym a.who_is))

-- -- another fact

pub adds_there : (p : Problem) (f : Fact) (y : BitPlace) (old new : List ℕ) → bit_place_at p f.pattern f.holds ≡ Some y
    → Adds old (λ i. i == y.place) y.number new → ((g : Pattern) (holds : Bool) (x : BitPlace) → bit_place_at p g holds ≡ Some x
    → x.number < 64) → AddsFact p f old new
adds_there p f y old new k adds small = record {
  len = adds.len;
  each = λ g holds x e. adds.each x.place x.number (small g holds x e) ∙ ap (λ t. has_at old x.place x.number || t)
      (same_bit_place p g holds f x y e k);
}

pub adds_nowhere : (p : Problem) (f : Fact) (words : List ℕ) → bit_place_at p f.pattern f.holds ≡ None → AddsFact p f words words
adds_nowhere p f words k = record {
  len = refl;
  each = λ g holds x e. sym (ap (λ t. has_at words x.place x.number || t) (another g holds x e) ∙ or-false (has_at words x.place x.number));
}
  where
    clash : (x : BitPlace) → None ≡ Some x → ⊥
    clash x e = cc

    another : (g : Pattern) (holds : Bool) (x : BitPlace) → bit_place_at p g holds ≡ Some x → is_fact g holds f ≡ false
    another g holds x e = false_from_ne_true (is_fact g holds f) (λ t. clash x (sym k ∙ bit_place_of-same p g holds f t ∙ e))

pub fact_table_more : (p : Problem) (facts : List Fact) (f : Fact) (old new : List ℕ) → ShowsFacts p facts old → AddsFact p f old new
    → ShowsFacts p (facts ++ f ∷ []) new
fact_table_more p facts f old new s w = record {
  len = w.len ∙ s.len;
  each = λ g holds x e.
      w.each g holds x e
      ∙ ap (λ b. b || is_fact g holds f) (s.each g holds x e)
      ∙ ap (λ b. has_fact facts g holds || b) (sym (or-false (is_fact g holds f)))
      ∙ sym (list_any-append (is_fact g holds) facts (f ∷ []));
}

-- the numbers of sets
number_in : (p : Problem) (holds : Bool) (c d s : ℕ) (room : Option ℕ) (x : BitPlace) → s < 64
    → bit_place_in p holds c d s room ≡ Some x → x.number < 64
number_in p holds c d s None x h e =
    let ex : s ≡ x.number = ap (λ (z : BitPlace). z.number) (let q : record { place = open_place p holds c d; number = s } ≡ x = cc in q) in
    omega arith
number_in p holds c d s (Some r) x h e =
    let q = closed p holds c d s r x e in
    let ex : r % 64 ≡ x.number = ap (λ (z : BitPlace). z.number) q.bit_place_is in
    omega arith

pub small_numbers : (p : Problem) → p.periods ≤ 64 → (g : Pattern) (holds : Bool) (x : BitPlace) → bit_place_at p g holds ≡ Some x
    → x.number < 64
small_numbers p h g holds x e =
    let a = usual p holds g.who g.room g.day g.period x e in
    let at : a.at < p.periods = a.period_there in
    number_in p holds a.course a.on a.at g.room x (omega arith) a.bit_place

-- ---- facts without a place

nowhere_is : (x : Option BitPlace) → x ≡ None → is_nowhere x ≡ true
nowhere_is x e = ap is_nowhere e

-- a fact without a place is on the path exactly if it is in the list of these facts
pub unplaced_has_fact : (p : Problem) (facts : List Fact) (g : Pattern) (holds : Bool) → bit_place_at p g holds ≡ None
    → has_fact (unplaced_of p facts) g holds ≡ has_fact facts g holds
unplaced_has_fact p facts g holds e =
    any-filter_same (is_fact g holds) (λ f. is_nowhere (bit_place_at p f.pattern f.holds)) true
    (λ f t. nowhere_is (bit_place_at p f.pattern f.holds) (bit_place_of-same p g holds f t ∙ e)) facts

pub unplaced_more : (p : Problem) (facts : List Fact) (f : Fact) → is_nowhere (bit_place_at p f.pattern f.holds) ≡ true
    → unplaced_of p (facts ++ f ∷ []) ≡ unplaced_of p facts ++ f ∷ []
unplaced_more p facts f e = filter-append (λ h. is_nowhere (bit_place_at p h.pattern h.holds)) facts (f ∷ [])
    ∙ ap (λ b. unplaced_of p facts ++ cond b (f ∷ []) []) e

pub unplaced_stay : (p : Problem) (facts : List Fact) (f : Fact) → is_nowhere (bit_place_at p f.pattern f.holds) ≡ false
    → unplaced_of p (facts ++ f ∷ []) ≡ unplaced_of p facts
unplaced_stay p facts f e = filter-append (λ h. is_nowhere (bit_place_at p h.pattern h.holds)) facts (f ∷ [])
    ∙ ap (λ b. unplaced_of p facts ++ cond b (f ∷ []) []) e ∙ append-nil (unplaced_of p facts)
