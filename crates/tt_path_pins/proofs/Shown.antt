-- What the table shows after another fact.
use Rattle.std.proofs.Common.{◌≡◌, ℕ, ◌+◌, ◌*◌, ◌/◌, ◌%◌, ◌<◌, Bool, true, false, ◌&&◌, ◌||◌, List, [], ◌∷◌, ◌++◌, length, refl, sym, ap, ◌∙◌, arith}
use Rattle.std.specs.Prelude.{nat_lt}
use Rattle.std.proofs.Math.Bool.{or-false}
use Rattle.std.proofs.lemmas.List.Folds.{list_any-append}
use Rattle.tt_instance.specs.Problem.{Problem}
use Rattle.tt_instance.specs.Cells.{slot}
use Rattle.tt_path.specs.Live.{gives, is_pinned_by, pinned, pinned_room}
use Rattle.tt_path.specs.declared.facts.Who.TheVariants.{Course}
use Rattle.tt_path.specs.declared.facts.Fact.{Fact}
use Rattle.tt_path_pins.specs.Inner.Sets.{has_at}
use Rattle.tt_path_pins.specs.Inner.Tables.{row_of, day_place, block_place, room_place, pins_period, pins_room, ShowsPins, PinsPeriods, PinsRooms, Pins}
use Rattle.tt_path_pins.proofs.Grid.{row_within, day_within, block_within}
use Rattle.tt_list_laws.proofs.Grid.{block_back, number_back}

-- another test, after a bound
one_more : (x l a h b c d : Bool) → x ≡ (l && a) → (x || (h && (l && (b && c && d)))) ≡ (l && (a || ((h && b && c && d) || false)))
one_more x true a true b c d e = ap (λ t. t || (b && c && d)) e ∙ ap (λ t. a || t) (sym (or-false (b && c && d)))
one_more x true a false b c d e = or-false x ∙ e ∙ sym (or-false a)
one_more x false a true b c d e = or-false x ∙ e
one_more x false a false b c d e = or-false x ∙ e

one_room_more : (x l a h b c : Bool) → x ≡ (l && a) → (x || (h && (l && (b && c)))) ≡ (l && (a || ((h && b && c) || false)))
one_room_more x true a true b c e = ap (λ t. t || (b && c)) e ∙ ap (λ t. a || t) (sym (or-false (b && c)))
one_room_more x true a false b c e = or-false x ∙ e ∙ sym (or-false a)
one_room_more x false a true b c e = or-false x ∙ e
one_room_more x false a false b c e = or-false x ∙ e

pub shown_more : (p : Problem) (facts : List Fact) (f : Fact) (old new : List ℕ) → ShowsPins p facts old → Pins p f old new
    → ShowsPins p (facts ++ f ∷ []) new
shown_more p facts f old new s w = record {
  len = w.len ∙ s.len;
  periods = λ who d t is hd ht.
      w.periods who d t is hd ht
      ∙ one_more (has_at old (day_place p (row_of p who) d) t) (nat_lt t p.periods) (pinned p facts who (slot d t)) f.holds
      (is_pinned_by p who f.pattern.who) (gives f.pattern.day d) (gives f.pattern.period t) (s.periods who d t is hd ht)
      ∙ ap (λ b. nat_lt t p.periods && b)
      (sym (list_any-append (λ (g : Fact). g.holds && is_pinned_by p who g.pattern.who && gives g.pattern.day d
      && gives g.pattern.period t) facts (f ∷ [])));
  rooms = λ c r hc hr.
      w.rooms c r hc hr
      ∙ one_room_more (has_at old (room_place p c r) (r % 64)) (nat_lt r (length p.rooms)) (pinned_room p facts c r) f.holds
      (is_pinned_by p (Course c) f.pattern.who) (gives f.pattern.room r) (s.rooms c r hc hr)
      ∙ ap (λ b. nat_lt r (length p.rooms) && b)
      (sym (list_any-append (λ (g : Fact). g.holds && is_pinned_by p (Course c) g.pattern.who && gives g.pattern.room r) facts (f ∷ [])));
}

-- the periods of a yes-fact first, then its rooms
pub pins_both : (p : Problem) (f : Fact) (a b d : List ℕ) → f.holds ≡ true
    → PinsPeriods p f.pattern.who f.pattern.day f.pattern.period a b → PinsRooms p f.pattern.who f.pattern.room b d → Pins p f a d
pins_both p f a b d reported g h = record {
  len = h.len ∙ g.len;
  periods = λ who e s is hd hs.
      let i = day_place p (row_of p who) e in
      h.others i s (day_within p (row_of p who) e (row_within p who is) hd) hs
      ∙ g.periods who e s is hd hs
      ∙ ap (λ t. has_at a i s || (t && (nat_lt s p.periods && pins_period p f.pattern.who f.pattern.day f.pattern.period who e s)))
      (sym reported);
  rooms = λ c r hc hr.
      h.rooms c r hc hr
      ∙ ap (λ t. t || (nat_lt r (length p.rooms) && pins_room p f.pattern.who f.pattern.room c r))
      (g.others (room_place p c r) (r % 64) (omega arith) (omega arith))
      ∙ ap (λ t. has_at a (room_place p c r) (r % 64) ||
      (t && (nat_lt r (length p.rooms) && pins_room p f.pattern.who f.pattern.room c r))) (sym reported);
}

-- a no-fact pins nothing
pub pins_none : (p : Problem) (f : Fact) (a : List ℕ) → f.holds ≡ false → Pins p f a a
pins_none p f a silent = record {
  len = refl;
  periods = λ who e s is hd hs.
      let i = day_place p (row_of p who) e in
      sym (ap (λ t. has_at a i s || (t && (nat_lt s p.periods && pins_period p f.pattern.who f.pattern.day f.pattern.period who e s)))
      silent ∙ or-false (has_at a i s));
  rooms = λ c r hc hr.
      let i = room_place p c r in
      sym (ap (λ t. has_at a i (r % 64) || (t && (nat_lt r (length p.rooms) && pins_room p f.pattern.who f.pattern.room c r))) silent
      ∙ or-false (has_at a i (r % 64)));
}

-- a block of rooms
pub block_shown : (p : Problem) (facts : List Fact) (words : List ℕ) (c b : ℕ) → ShowsPins p facts words → c < length p.courses
    → b * 64 < length p.rooms → (n : ℕ) → n < 64
    → has_at words (block_place p c b) n ≡ (nat_lt (b * 64 + n) (length p.rooms) && pinned_room p facts c (b * 64 + n))
block_shown p facts words c b s hc hb n h =
    let k = block_within p b hb in
    ap (λ m. has_at words (block_place p c m) n) (sym (block_back b n h))
    ∙ ap (λ m. has_at words (block_place p c ((b * 64 + n) / 64)) m) (sym (number_back b n h))
    ∙ s.rooms c (b * 64 + n) hc (rw (block_back b n h) k)
