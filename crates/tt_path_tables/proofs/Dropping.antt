-- Bits that are removed word by word.
use Rattle.std.proofs.Common.{◌≡◌, ℕ, ◌+◌, ◌*◌, ◌/◌, ◌%◌, ◌<◌, Bool, true, false, not, ◌&&◌, ◌||◌, List, length, Option, refl, sym, ap, ◌∙◌, arith, inl, inr, eq-eqb, ne_eqb}
use Rattle.std.specs.Prelude.{◌==◌, nat_lt, slice_set, slice_index_or}
use Rattle.std.proofs.lemmas.Bool.{cases_eq, and_parts, and_from, both_ways, eqb-true, lt-ltb, ltb-true, false_from_ne_true, le-ltb, or_cases, or_left, or_right}
use Rattle.std.proofs.lemmas.List.{length-set, get_or-set_same, get_or-set_other}
use Rattle.tt_list_laws.proofs.Truth.{same_truth, still_there, taken_twice}
use Rattle.tt_instance.specs.Problem.{Problem}
use Rattle.tt_instance.specs.Cells.{slot, cell, InRange}
use Rattle.tt_instance.specs.declared.cell.Cell.{Cell}
use Rattle.tt_path.specs.Facts.{agrees}
use Rattle.tt_bits.specs.Inner.Bits.{has_bit, Clears}
use Rattle.tt_path_tables.specs.Inner.Words.{Bit, IsBit, width, place, size, bit_of, bit_on, is_set, in_force, is_plain, is_kept, is_wide, is_here, Drops}
use Rattle.tt_path_tables.specs.Inner.Tables.{has_cell, IsTable, Loses, Widens, is_placed, is_open}
use Rattle.tt_path_tables.proofs.Grid.{word_within, same_word, bit_within, wide_within, room_back, block_within}

-- a table whose bits aren't in force has no cell
pub cleared-cell : (p : Problem) (words : List ℕ) → in_force p words ≡ false → (x : Cell) → has_cell p words x ≡ false
unfolding has_cell
cleared-cell p words e x = ap (λ b. b && is_set p words (bit_of x) && (is_plain p words || is_kept p words x)) e

-- ---- truth values

taken : (b h m : Bool) → h ≡ true → (b && not m) ≡ (b && not (h && m))
taken b true m e = refl
taken b false m e = cc

in_all : (f b w g : Bool) → (f && (b && not g) && w) ≡ ((f && b && w) && not g)
in_all false b w g = refl
in_all true false w g = refl
in_all true true true true = refl
in_all true true true false = refl
in_all true true false true = refl
in_all true true false false = refl

or_nothing : (b : Bool) → b ≡ false → (v : Bool) → (b || v) ≡ v
or_nothing true e v = cc
or_nothing false e v = refl

last_one : (h g m : Bool) → m ≡ g → ((h && false && g) || (h && true && m)) ≡ (h && true && g)
last_one true g m e = e
last_one false g m e = refl

others_too : (h l g m : Bool) → ((h && l && g) || (h && false && m)) ≡ (h && l && g)
others_too true true true m = refl
others_too true true false m = refl
others_too true false g m = refl
others_too false l g m = refl

module _ (p : Problem) (old : List ℕ) where
  pub drops-none : (g : Bit → Bool) → ((b : Bit) → IsBit p b → g b ≡ false) → Drops p old old g
  drops-none g h = record { len = refl; last = refl; bits = λ b k. still_there (is_set p old b) (g b) (h b k) }

  -- one word loses the bits of a mask
  pub word_dropped : (c d s n mask : ℕ) (new : List ℕ) → c < length p.courses → d < p.days + 1 → s < p.periods + 1 → n < width p
      → Clears old (place p c d s + n) mask new → Drops p old new (λ b. is_here c d s b && (b.block == n) && has_bit mask b.number)
  word_dropped c d s n mask new hc hd hs hn cl = record {
    len = cl.len;
    last = cl.others (size p) (λ e. let w = word_within p at at_within in omega arith);
    bits = λ b h. elim (cases_eq (place p b.course b.day b.period + b.block) (place p c d s + n)) [
      | inl q ↦ here b h q
      | inr q ↦ ap (λ w. has_bit w b.number) (cl.others (place p b.course b.day b.period + b.block) q)
          ∙ still_there (is_set p old b) (is_here c d s b && (b.block == n) && has_bit mask b.number) (elsewhere b q)
    ];
  }
    where
      at : Bit
      at = record { course = c; day = d; period = s; block = n; number = 0 }

      at_within : IsBit p at
      at_within = record { course = hc; day = hd; period = hs; block = hn; number = omega arith }

      here : (b : Bit) → IsBit p b → place p b.course b.day b.period + b.block ≡ place p c d s + n
          → is_set p new b ≡ (is_set p old b && not (is_here c d s b && (b.block == n) && has_bit mask b.number))
      here b h q =
          let same = same_word p b at h at_within q in
          ap (λ i. has_bit (slice_index_or new i 0) b.number) q
          ∙ cl.here b.number h.number
          ∙ ap (λ i. has_bit (slice_index_or old i 0) b.number && not (has_bit mask b.number)) (sym q)
          ∙ taken (is_set p old b) (is_here c d s b && (b.block == n)) (has_bit mask b.number)
          (and_from (is_here c d s b) (b.block == n)
          (and_from ((b.course == c) && (b.day == d)) (b.period == s)
          (and_from (b.course == c) (b.day == d) (eq-eqb b.course c same.0) (eq-eqb b.day d same.1)) (eq-eqb b.period s same.2))
          (eq-eqb b.block n same.3))

      elsewhere : (b : Bit) → (place p b.course b.day b.period + b.block ≡ place p c d s + n → ⊥)
          → (is_here c d s b && (b.block == n) && has_bit mask b.number) ≡ false
      elsewhere b apart = false_from_ne_true (is_here c d s b && (b.block == n) && has_bit mask b.number) (λ t.
          let u = and_parts (is_here c d s b && (b.block == n)) (has_bit mask b.number) t in
          let v = and_parts (is_here c d s b) (b.block == n) u.0 in
          let w = and_parts ((b.course == c) && (b.day == d)) (b.period == s) v.0 in
          let x = and_parts (b.course == c) (b.day == d) w.0 in
          apart (ap (λ i. place p i b.day b.period + b.block) (eqb-true b.course c x.0) ∙ ap (λ i. place p c i b.period + b.block)
          (eqb-true b.day d x.1) ∙ ap (λ i. place p c d i + b.block) (eqb-true b.period s w.1)
          ∙ ap (λ i. place p c d s + i) (eqb-true b.block n v.1)))

  pub drops-more : (mid new : List ℕ) (g h k : Bit → Bool) → Drops p old mid g → Drops p mid new h
      → ((b : Bit) → IsBit p b → (g b || h b) ≡ k b) → Drops p old new k
  drops-more mid new g h k a z e = record {
    len = z.len ∙ a.len;
    last = z.last ∙ a.last;
    bits = λ b q. z.bits b q ∙ ap (λ t. t && not (h b)) (a.bits b q) ∙ taken_twice (is_set p old b) (g b) (h b)
        ∙ ap (λ t. is_set p old b && not t) (e b q);
  }

  -- another block of a course in a period
  pub block_dropped : (c d s n mask : ℕ) (lost : ℕ → ℕ → Bool) (mid new : List ℕ) → c < length p.courses → d < p.days + 1
      → s < p.periods + 1
      → n < width p
      → Drops p old mid (λ b. is_here c d s b && nat_lt b.block n && lost b.block b.number)
      → Drops p mid new (λ b. is_here c d s b && (b.block == n) && has_bit mask b.number) → ((k : ℕ) → k < 64 → has_bit mask k ≡ lost n k)
      → Drops p old new (λ b. is_here c d s b && nat_lt b.block (n + 1) && lost b.block b.number)
  block_dropped c d s n mask lost mid new hc hd hs hn a z m =
      drops-more mid new (λ b. is_here c d s b && nat_lt b.block n && lost b.block b.number)
      (λ b. is_here c d s b && (b.block == n) && has_bit mask b.number)
      (λ b. is_here c d s b && nat_lt b.block (n + 1) && lost b.block b.number) a z joined
    where
      joined : (b : Bit) → IsBit p b
          → ((is_here c d s b && nat_lt b.block n && lost b.block b.number) ||
          (is_here c d s b && (b.block == n) && has_bit mask b.number)) ≡
          (is_here c d s b && nat_lt b.block (n + 1) && lost b.block b.number)
      joined b h = elim (cases_eq b.block n) [
        | inl e ↦ ap (λ t. (is_here c d s b && t && lost b.block b.number) ||
            (is_here c d s b && (b.block == n) && has_bit mask b.number)) (le-ltb b.block n (omega arith))
            ∙ ap (λ t. (is_here c d s b && false && lost b.block b.number) || (is_here c d s b && t && has_bit mask b.number))
            (eq-eqb b.block n e)
            ∙ last_one (is_here c d s b) (lost b.block b.number) (has_bit mask b.number)
            (m b.number h.number ∙ ap (λ i. lost i b.number) (sym e))
            ∙ ap (λ t. is_here c d s b && t && lost b.block b.number) (sym (lt-ltb b.block (n + 1) (omega arith)))
        | inr e ↦ ap (λ t. (is_here c d s b && nat_lt b.block n && lost b.block b.number) ||
            (is_here c d s b && t && has_bit mask b.number)) (ne_eqb b.block n e)
            ∙ others_too (is_here c d s b) (nat_lt b.block n) (lost b.block b.number) (has_bit mask b.number)
            ∙ ap (λ t. is_here c d s b && t && lost b.block b.number) (same_truth (nat_lt b.block n) (nat_lt b.block (n + 1))
            (λ t. let l = ltb-true b.block n t in lt-ltb b.block (n + 1) (omega arith))
            (λ t. let l = ltb-true b.block (n + 1) t in lt-ltb b.block n (omega (arith, e))))
      ]

  -- the bits of single periods removed from a table, as cells
  module _ (new : List ℕ) (g : Bit → Bool) (t : IsTable p old) (a : Drops p old new g) where
    pub same_bit : (b : Bit) → IsBit p b → g b ≡ false → is_set p new b ≡ is_set p old b
    same_bit b k e = a.bits b k ∙ sym (still_there (is_set p old b) (g b) e)

    pub same_force : in_force p new ≡ in_force p old
    same_force = ap (λ w. not (w == 1)) a.last

    pub same_state : is_plain p new ≡ is_plain p old
    same_state = ap (λ w. w == 0) a.last

    pub table_from : ((b : Bit) → is_plain p old ≡ true → is_wide p b ≡ true → g b ≡ false) → IsTable p new
    table_from own = record {
      len = a.len ∙ t.len;
      spare = λ b k past. a.bits b k ∙ ap (λ v. v && not (g b)) (t.spare b k past);
      plain = λ state b k wide inside.
          let before = sym same_state ∙ state in
          same_bit b k (own b before wide) ∙ t.plain before b k wide inside;
    }

    same_kept : (x : Cell) → InRange p x → ((d s : ℕ) → is_wide p (bit_on d s x) ≡ true → g (bit_on d s x) ≡ false)
        → is_kept p new x ≡ is_kept p old x
    same_kept x k own =
        ap (λ v. v && (is_set p new (bit_on p.days x.period x) && is_set p new (bit_on p.days p.periods x)))
        (same_bit (bit_on x.day p.periods x) (wide_within p x k x.day p.periods (omega (arith, k.day)) (omega arith))
        (own x.day p.periods (or_right (x.day == p.days) (p.periods == p.periods) (eq-eqb p.periods p.periods refl))))
        ∙ ap (λ v. is_set p old (bit_on x.day p.periods x) && (v && is_set p new (bit_on p.days p.periods x)))
        (same_bit (bit_on p.days x.period x) (wide_within p x k p.days x.period (omega arith) (omega (arith, k.period)))
        (own p.days x.period (or_left (p.days == p.days) (x.period == p.periods) (eq-eqb p.days p.days refl))))
        ∙ ap (λ v. is_set p old (bit_on x.day p.periods x) && (is_set p old (bit_on p.days x.period x) && v))
        (same_bit (bit_on p.days p.periods x) (wide_within p x k p.days p.periods (omega arith) (omega arith))
        (own p.days p.periods (or_left (p.days == p.days) (p.periods == p.periods) (eq-eqb p.days p.days refl))))

    pub loses_from : (h : Cell → Bool) → ((b : Bit) → is_wide p b ≡ true → g b ≡ false)
        → ((x : Cell) → InRange p x → g (bit_of x) ≡ h x) → Loses p old h new
    unfolding has_cell
    loses_from h own e = record {
      table = table_from (λ b _ wide. own b wide);
      cells = λ x k.
          let rest = is_plain p old || is_kept p old x in
          ap (λ f. f && is_set p new (bit_of x) && (is_plain p new || is_kept p new x)) same_force
          ∙ ap (λ v. in_force p old && v && (is_plain p new || is_kept p new x)) (a.bits (bit_of x) (bit_within p x k))
          ∙ ap (λ v. in_force p old && (is_set p old (bit_of x) && not (g (bit_of x))) && (v || is_kept p new x)) same_state
          ∙ ap (λ v. in_force p old && (is_set p old (bit_of x) && not (g (bit_of x))) && (is_plain p old || v))
          (same_kept x k (λ d s wide. own (bit_on d s x) wide))
          ∙ in_all (in_force p old) (is_set p old (bit_of x)) rest (g (bit_of x))
          ∙ ap (λ v. (in_force p old && is_set p old (bit_of x) && rest) && not v) (e x k);
    }

  pub all_removed : (new : List ℕ) → IsTable p old → new ≡ slice_set old (size p) 1 → Loses p old (λ x. true) new
  unfolding has_cell
  all_removed new t e = record {
    table = record {
      len = ap length e ∙ length-set old (size p) 1 ∙ t.len;
      spare = λ b k past. ap (λ l. is_set p l b) e
          ∙ ap (λ w. has_bit w b.number) (get_or-set_other old (size p) (place p b.course b.day b.period + b.block) 1 0
          (λ q. let w = word_within p b k in omega arith)) ∙ t.spare b k past;
      plain = λ state b k wide inside. absurd (both_ways (is_plain p new) (ap (λ w. w == 0) last) state);
    };
    cells = λ x k.
        ap (λ w. not (w == 1) && is_set p new (bit_of x) && (is_plain p new || is_kept p new x)) last
        ∙ nothing (has_cell p old x);
  }
    where
      last : slice_index_or new (size p) 0 ≡ 1
      last = ap (λ l. slice_index_or l (size p) 0) e ∙ get_or-set_same old (size p) 1 0 (let l = t.len in omega arith)

      nothing : (b : Bool) → false ≡ (b && not true)
      nothing true = refl
      nothing false = refl

  -- ---- the cells of a course in a period

  each_block : (c d s : ℕ) (lost : ℕ → ℕ → Bool) (h : Cell → Bool) (x : Cell) → InRange p x
      → (is_placed c d s x ≡ true → lost (x.room / 64) (x.room % 64) ≡ h x)
      → (is_placed c d s x && nat_lt (x.room / 64) (width p) && lost (x.room / 64) (x.room % 64)) ≡ (is_placed c d s x && h x)
  each_block c d s lost h x k e =
      ap (λ t. is_placed c d s x && t && lost (x.room / 64) (x.room % 64)) (lt-ltb (x.room / 64) (width p) (block_within p x.room k.room))
      ∙ by_test (is_placed c d s x) e
    where
      by_test : (b : Bool) → (b ≡ true → lost (x.room / 64) (x.room % 64) ≡ h x) → (b && true && lost (x.room / 64) (x.room % 64)) ≡
          (b && h x)
      by_test true f = f refl
      by_test false f = refl

  -- no bit of a single period is one of several periods
  own_period : (c d s : ℕ) → d < p.days → s < p.periods → (lost : ℕ → ℕ → Bool) → (b : Bit) → is_wide p b ≡ true
      → (is_here c d s b && nat_lt b.block (width p) && lost b.block b.number) ≡ false
  own_period c d s hd hs lost b wide = false_from_ne_true (is_here c d s b && nat_lt b.block (width p) && lost b.block b.number) (λ e.
      let u = and_parts (is_here c d s b && nat_lt b.block (width p)) (lost b.block b.number) e in
      let v = and_parts (is_here c d s b) (nat_lt b.block (width p)) u.0 in
      let w = and_parts ((b.course == c) && (b.day == d)) (b.period == s) v.0 in
      let x = and_parts (b.course == c) (b.day == d) w.0 in
      let day = eqb-true b.day d x.1 in
      let period = eqb-true b.period s w.1 in
      elim (or_cases (b.day == p.days) (b.period == p.periods) wide) [
        | inl q ↦ let i = eqb-true b.day p.days q in omega arith
        | inr q ↦ let i = eqb-true b.period p.periods q in omega arith
      ])

  pub rooms_removed : (c d s : ℕ) → d < p.days → s < p.periods → (room : Option ℕ) (new : List ℕ) → IsTable p old
      → Drops p old new (λ b. is_here c d s b && nat_lt b.block (width p) && agrees room (b.block * 64 + b.number))
      → Loses p old (λ x. is_placed c d s x && agrees room x.room) new
  rooms_removed c d s hd hs room new t a =
      loses_from new (λ b. is_here c d s b && nat_lt b.block (width p) && agrees room (b.block * 64 + b.number)) t a
      (λ x. is_placed c d s x && agrees room x.room)
      (λ b wide. own_period c d s hd hs (λ w i. agrees room (w * 64 + i)) b wide)
      (λ x k. each_block c d s (λ w i. agrees room (w * 64 + i)) (λ y. agrees room y.room) x k (λ _. ap (agrees room) (room_back x.room)))

  pub rooms_kept : (c d s : ℕ) → d < p.days → s < p.periods → (room : Option ℕ) (other new : List ℕ) → IsTable p old
      → Drops p old new (λ b. is_here c d s b && nat_lt b.block (width p) && not (is_open p other room c d s (b.block * 64 + b.number)))
      → Loses p old (λ x. is_placed c d s x && not (has_cell p other x && agrees room x.room)) new
  rooms_kept c d s hd hs room other new t a =
      loses_from new (λ b. is_here c d s b && nat_lt b.block (width p) && not (is_open p other room c d s (b.block * 64 + b.number))) t a
      (λ x. is_placed c d s x && not (has_cell p other x && agrees room x.room))
      (λ b wide. own_period c d s hd hs (λ w i. not (is_open p other room c d s (w * 64 + i))) b wide)
      (λ x k. each_block c d s (λ w i. not (is_open p other room c d s (w * 64 + i)))
      (λ y. not (has_cell p other y && agrees room y.room)) x k (λ e.
      let u = and_parts ((x.course == c) && (x.day == d)) (x.period == s) e in
      let v = and_parts (x.course == c) (x.day == d) u.0 in
      ap (λ r. not (is_open p other room c d s r)) (room_back x.room)
      ∙ ap (λ i. not (has_cell p other (cell i x.room (slot d s)) && agrees room x.room)) (sym (eqb-true x.course c v.0))
      ∙ ap (λ i. not (has_cell p other (cell x.course x.room (slot i s)) && agrees room x.room)) (sym (eqb-true x.day d v.1))
      ∙ ap (λ i. not (has_cell p other (cell x.course x.room (slot x.day i)) && agrees room x.room)) (sym (eqb-true x.period s u.1))))
