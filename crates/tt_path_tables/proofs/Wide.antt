-- Cells that go from several periods at once.
use Rattle.std.proofs.Common.{◌≡◌, ℕ, ◌+◌, ◌*◌, ◌/◌, ◌%◌, ◌<◌, Bool, true, false, not, ◌&&◌, ◌||◌, List, length, Option, Some, None, refl, sym, ap, subst, ◌∙◌, arith, inl, inr, eq-eqb, ne_eqb}
use Rattle.std.specs.Prelude.{◌⊎◌, ◌==◌, nat_lt, slice_set, slice_index_or, unwrap_or, IfSome}
use Rattle.std.proofs.lemmas.Bool.{and_from, both_ways, eqb-true, lt-ltb, or_left, or_right}
use Rattle.std.proofs.lemmas.List.{length-set, get_or-set_same, get_or-set_other}
use Rattle.tt_list_laws.proofs.Tests.{same_test}
use Rattle.tt_instance.specs.Problem.{Problem}
use Rattle.tt_instance.specs.Cells.{InRange}
use Rattle.tt_instance.specs.declared.cell.Cell.{Cell}
use Rattle.tt_path.specs.Facts.{agrees}
use Rattle.tt_path.specs.Inner.Nested.{has_place_of}
use Rattle.tt_path.specs.declared.facts.Pattern.{Pattern}
use Rattle.tt_bits.specs.Inner.Bits.{has_bit}
use Rattle.tt_path_tables.specs.Inner.Words.{Bit, IsBit, width, place, size, room_of, bit_of, bit_on, is_set, in_force, is_plain, is_kept, is_wide, is_here, Drops}
use Rattle.tt_path_tables.specs.Inner.Tables.{has_cell, IsTable, Loses, Widens}
use Rattle.tt_path_tables.proofs.Grid.{word_within, wide_within, room_back, block_within}
use Rattle.tt_path_tables.proofs.Dropping.{same_bit, same_force, same_state, table_from}

-- ---- truth values

last_not : (a b g : Bool) → (a && (b && not g)) ≡ ((a && b) && not g)
last_not true b g = refl
last_not false b g = refl

first_not : (b r g : Bool) → ((b && not g) && r) ≡ ((b && r) && not g)
first_not false r g = refl
first_not true true true = refl
first_not true true false = refl
first_not true false true = refl
first_not true false false = refl

with_true : (z a : Bool) → ((z && true) && a) ≡ (z && a)
with_true true a = refl
with_true false a = refl

no_day : (q w l z : Bool) → ((((q && false) && w) && l) && z) ≡ false
no_day true w l z = refl
no_day false w l z = refl

no_period : (u l z : Bool) → (((u && false) && l) && z) ≡ false
no_period true l z = refl
no_period false l z = refl

week_order : (q a : Bool) → (((q && true) && true) && a) ≡ (q && ((a && true) && true))
week_order false a = refl
week_order true true = refl
week_order true false = refl

day_order : (q v a : Bool) → (((q && v) && true) && a) ≡ (q && ((a && v) && true))
day_order false v a = refl
day_order true true true = refl
day_order true true false = refl
day_order true false true = refl
day_order true false false = refl

period_order : (q v a : Bool) → (((q && true) && v) && a) ≡ (q && ((a && true) && v))
period_order false v a = refl
period_order true true true = refl
period_order true true false = refl
period_order true false true = refl
period_order true false false = refl

-- ---- tables whose words of several periods count

module _ (p : Problem) (old : List ℕ) (t : IsTable p old) where
  pub is_widened : is_plain p old ≡ false → Widens p old old
  is_widened e = record { table = t; wide = e; cells = λ x k. refl }

  module _ (new : List ℕ) (plain : is_plain p old ≡ true) (e : new ≡ slice_set old (size p) 2) where
    state : slice_index_or new (size p) 0 ≡ 2
    state = ap (λ l. slice_index_or l (size p) 0) e ∙ get_or-set_same old (size p) 2 0 (let l = t.len in omega arith)

    same_set : (b : Bit) → IsBit p b → is_set p new b ≡ is_set p old b
    same_set b k = ap (λ l. is_set p l b) e
        ∙ ap (λ w. has_bit w b.number) (get_or-set_other old (size p) (place p b.course b.day b.period + b.block) 2 0
        (λ q. let w = word_within p b k in omega arith))

    full : (x : Cell) → InRange p x → (d s : ℕ) → d < p.days + 1 → s < p.periods + 1 → is_wide p (bit_on d s x) ≡ true
        → is_set p new (bit_on d s x) ≡ true
    full x k d s hd hs wide =
        same_set (bit_on d s x) (wide_within p x k d s hd hs)
        ∙ t.plain plain (bit_on d s x) (wide_within p x k d s hd hs) wide (subst (λ r. r < length p.rooms) (sym (room_back x.room)) k.room)

    all_kept : (x : Cell) → InRange p x → is_kept p new x ≡ true
    all_kept x k =
        and_from (is_set p new (bit_on x.day p.periods x)) (is_set p new (bit_on p.days x.period x)
        && is_set p new (bit_on p.days p.periods x))
        (full x k x.day p.periods (omega (arith, k.day)) (omega arith)
        (or_right (x.day == p.days) (p.periods == p.periods) (eq-eqb p.periods p.periods refl)))
        (and_from (is_set p new (bit_on p.days x.period x)) (is_set p new (bit_on p.days p.periods x))
        (full x k p.days x.period (omega arith) (omega (arith, k.period))
        (or_left (p.days == p.days) (x.period == p.periods) (eq-eqb p.days p.days refl)))
        (full x k p.days p.periods (omega arith) (omega arith)
        (or_left (p.days == p.days) (p.periods == p.periods) (eq-eqb p.days p.days refl))))

    pub widened : Widens p old new
    unfolding has_cell
    widened = record {
      table = record {
        len = ap length e ∙ length-set old (size p) 2 ∙ t.len;
        spare = λ b k past. same_set b k ∙ t.spare b k past;
        plain = λ again b k wide inside. absurd (both_ways (is_plain p new) (ap (λ w. w == 0) state) again);
      };
      wide = ap (λ w. w == 0) state;
      cells = λ x k.
          let zero_there = eqb-true (slice_index_or old (size p) 0) 0 plain in
          ap (λ w. not (w == 1) && is_set p new (bit_of x) && ((w == 0) || is_kept p new x)) state
          ∙ ap (λ v. v && is_kept p new x) (same_set (bit_of x)
          (wide_within p x k x.day x.period (omega (arith, k.day)) (omega (arith, k.period))))
          ∙ ap (λ v. is_set p old (bit_of x) && v) (all_kept x k)
          ∙ sym (ap (λ w. not (w == 1) && is_set p old (bit_of x) && ((w == 0) || is_kept p old x)) zero_there);
    }

-- ---- cells that go

module _ (p : Problem) (mid new : List ℕ) (c d s : ℕ) (room : Option ℕ) (t : IsTable p mid) (wide : is_plain p mid ≡ false)
    (a : Drops p mid new (λ b. is_here c d s b && nat_lt b.block (width p) && agrees room (room_of b))) where
  abbrev gone : Bit → Bool
  gone b = is_here c d s b && nat_lt b.block (width p) && agrees room (room_of b)

  hit : (x : Cell) → InRange p x → (i j : ℕ) → gone (bit_on i j x) ≡ (((x.course == c) && (i == d)) && (j == s) && agrees room x.room)
  hit x k i j =
      ap (λ v. (((x.course == c) && (i == d)) && (j == s)) && v && agrees room (room_of (bit_on i j x)))
      (lt-ltb (x.room / 64) (width p) (block_within p x.room k.room))
      ∙ with_true (((x.course == c) && (i == d)) && (j == s)) (agrees room (room_of (bit_on i j x)))
      ∙ ap (λ r. ((x.course == c) && (i == d)) && (j == s) && agrees room r) (room_back x.room)

  other_day : (x : Cell) (i j : ℕ) → (i ≡ d → ⊥) → gone (bit_on i j x) ≡ false
  other_day x i j apart =
      ap (λ v. (((x.course == c) && v) && (j == s)) && nat_lt (x.room / 64) (width p)
      && agrees room (room_of (bit_on i j x))) (ne_eqb i d apart)
      ∙ no_day (x.course == c) (j == s) (nat_lt (x.room / 64) (width p)) (agrees room (room_of (bit_on i j x)))

  other_period : (x : Cell) (i j : ℕ) → (j ≡ s → ⊥) → gone (bit_on i j x) ≡ false
  other_period x i j apart =
      ap (λ v. (((x.course == c) && (i == d)) && v) && nat_lt (x.room / 64) (width p)
      && agrees room (room_of (bit_on i j x))) (ne_eqb j s apart)
      ∙ no_period ((x.course == c) && (i == d)) (nat_lt (x.room / 64) (width p)) (agrees room (room_of (bit_on i j x)))

  kept_bit : (x : Cell) → InRange p x → (i j : ℕ) → i < p.days + 1 → j < p.periods + 1 → gone (bit_on i j x) ≡ false
      → is_set p new (bit_on i j x) ≡ is_set p mid (bit_on i j x)
  kept_bit x k i j hi hj e = same_bit p mid new gone t a (bit_on i j x) (wide_within p x k i j hi hj) e

  loses_wide : (h : Cell → Bool) → ((x : Cell) → InRange p x → gone (bit_of x) ≡ false)
      → ((x : Cell) → InRange p x → is_kept p new x ≡ (is_kept p mid x && not (h x))) → Loses p mid h new
  unfolding has_cell
  loses_wide h own kept = record {
    table = table_from p mid new gone t a (λ b plain _. absurd (both_ways (is_plain p mid) wide plain));
    cells = λ x k.
        ap (λ f. f && is_set p new (bit_of x) && (is_plain p new || is_kept p new x)) (same_force p mid new gone t a)
        ∙ ap (λ v. in_force p mid && v && (is_plain p new || is_kept p new x))
        (kept_bit x k x.day x.period (omega (arith, k.day)) (omega (arith, k.period)) (own x k))
        ∙ ap (λ v. in_force p mid && is_set p mid (bit_of x) && (v || is_kept p new x)) (same_state p mid new gone t a ∙ wide)
        ∙ ap (λ v. in_force p mid && is_set p mid (bit_of x) && v) (kept x k)
        ∙ last_not (in_force p mid && is_set p mid (bit_of x)) (is_kept p mid x) (h x)
        ∙ ap (λ v. (in_force p mid && is_set p mid (bit_of x) && (v || is_kept p mid x)) && not (h x)) (sym wide);
  }

  -- from all periods
  pub week_removed : d ≡ p.days → s ≡ p.periods → Loses p mid (λ x. (x.course == c) && ((agrees room x.room && true) && true)) new
  week_removed ed es = loses_wide (λ x. (x.course == c) && ((agrees room x.room && true) && true))
      (λ x k. other_day x x.day x.period (λ e. let l = k.day in omega (arith, e, ed)))
      (λ x k.
      ap (λ v. v && (is_set p new (bit_on p.days x.period x) && is_set p new (bit_on p.days p.periods x)))
      (kept_bit x k x.day p.periods (omega (arith, k.day)) (omega arith)
      (other_day x x.day p.periods (λ e. let l = k.day in omega (arith, e, ed))))
      ∙ ap (λ v. is_set p mid (bit_on x.day p.periods x) && (v && is_set p new (bit_on p.days p.periods x)))
      (kept_bit x k p.days x.period (omega arith) (omega (arith, k.period))
      (other_period x p.days x.period (λ e. let l = k.period in omega (arith, e, es))))
      ∙ ap (λ v. is_set p mid (bit_on x.day p.periods x) && (is_set p mid (bit_on p.days x.period x) && v))
      (a.bits (bit_on p.days p.periods x) (wide_within p x k p.days p.periods (omega arith) (omega arith)))
      ∙ ap (λ v. is_set p mid (bit_on x.day p.periods x) && (is_set p mid (bit_on p.days x.period x)
      && (is_set p mid (bit_on p.days p.periods x) && not v)))
      (hit x k p.days p.periods
      ∙ ap (λ v. ((x.course == c) && v) && (p.periods == s) && agrees room x.room) (eq-eqb p.days d (sym ed))
      ∙ ap (λ v. ((x.course == c) && true) && v && agrees room x.room) (eq-eqb p.periods s (sym es))
      ∙ week_order (x.course == c) (agrees room x.room))
      ∙ ap (λ v. is_set p mid (bit_on x.day p.periods x) && v)
      (last_not (is_set p mid (bit_on p.days x.period x)) (is_set p mid (bit_on p.days p.periods x))
      ((x.course == c) && ((agrees room x.room && true) && true)))
      ∙ last_not (is_set p mid (bit_on x.day p.periods x)) (is_set p mid (bit_on p.days x.period x)
      && is_set p mid (bit_on p.days p.periods x))
      ((x.course == c) && ((agrees room x.room && true) && true)))

  -- from a day
  pub day_removed : d < p.days → s ≡ p.periods → Loses p mid (λ x. (x.course == c) && ((agrees room x.room && (d == x.day)) && true)) new
  day_removed hd es = loses_wide (λ x. (x.course == c) && ((agrees room x.room && (d == x.day)) && true))
      (λ x k. other_period x x.day x.period (λ e. let l = k.period in omega (arith, e, es)))
      (λ x k.
      let rest = is_set p mid (bit_on p.days x.period x) && is_set p mid (bit_on p.days p.periods x) in
      ap (λ v. is_set p new (bit_on x.day p.periods x) && (v && is_set p new (bit_on p.days p.periods x)))
      (kept_bit x k p.days x.period (omega arith) (omega (arith, k.period)) (other_day x p.days x.period (λ e. omega (arith, e, hd))))
      ∙ ap (λ v. is_set p new (bit_on x.day p.periods x) && (is_set p mid (bit_on p.days x.period x) && v))
      (kept_bit x k p.days p.periods (omega arith) (omega arith) (other_day x p.days p.periods (λ e. omega (arith, e, hd))))
      ∙ ap (λ v. v && rest) (a.bits (bit_on x.day p.periods x) (wide_within p x k x.day p.periods (omega (arith, k.day)) (omega arith)))
      ∙ ap (λ v. (is_set p mid (bit_on x.day p.periods x) && not v) && rest)
      (hit x k x.day p.periods
      ∙ ap (λ v. ((x.course == c) && (x.day == d)) && v && agrees room x.room) (eq-eqb p.periods s (sym es))
      ∙ ap (λ v. ((x.course == c) && v) && true && agrees room x.room) (same_test x.day d d x.day sym sym)
      ∙ day_order (x.course == c) (d == x.day) (agrees room x.room))
      ∙ first_not (is_set p mid (bit_on x.day p.periods x)) rest ((x.course == c) && ((agrees room x.room && (d == x.day)) && true)))

  -- from a period of each day
  pub period_removed : d ≡ p.days → s < p.periods → Loses p mid
      (λ x. (x.course == c) && ((agrees room x.room && true) && (s == x.period))) new
  period_removed ed hs = loses_wide (λ x. (x.course == c) && ((agrees room x.room && true) && (s == x.period)))
      (λ x k. other_day x x.day x.period (λ e. let l = k.day in omega (arith, e, ed)))
      (λ x k.
      let own = is_set p mid (bit_on x.day p.periods x) in
      let last = is_set p mid (bit_on p.days p.periods x) in
      ap (λ v. v && (is_set p new (bit_on p.days x.period x) && is_set p new (bit_on p.days p.periods x)))
      (kept_bit x k x.day p.periods (omega (arith, k.day)) (omega arith) (other_period x x.day p.periods (λ e. omega (arith, e, hs))))
      ∙ ap (λ v. own && (is_set p new (bit_on p.days x.period x) && v))
      (kept_bit x k p.days p.periods (omega arith) (omega arith) (other_period x p.days p.periods (λ e. omega (arith, e, hs))))
      ∙ ap (λ v. own && (v && last)) (a.bits (bit_on p.days x.period x)
      (wide_within p x k p.days x.period (omega arith) (omega (arith, k.period))))
      ∙ ap (λ v. own && ((is_set p mid (bit_on p.days x.period x) && not v) && last))
      (hit x k p.days x.period
      ∙ ap (λ v. ((x.course == c) && v) && (x.period == s) && agrees room x.room) (eq-eqb p.days d (sym ed))
      ∙ ap (λ v. ((x.course == c) && true) && v && agrees room x.room) (same_test x.period s s x.period sym sym)
      ∙ period_order (x.course == c) (s == x.period) (agrees room x.room))
      ∙ ap (λ v. own && v) (first_not (is_set p mid (bit_on p.days x.period x)) last
      ((x.course == c) && ((agrees room x.room && true) && (s == x.period))))
      ∙ last_not own (is_set p mid (bit_on p.days x.period x) && last)
      ((x.course == c) && ((agrees room x.room && true) && (s == x.period))))

-- the cells of a course that agree with a pattern which gives no day or no period
module _ (p : Problem) (old mid new : List ℕ) (c d s : ℕ) (w : Widens p old mid) where
  from_parts : (room day period : Option ℕ) → d ≡ unwrap_or day p.days → s ≡ unwrap_or period p.periods → (day ≡ None) ⊎ (period ≡ None)
      → IfSome day (λ i. i < p.days) → IfSome period (λ j. j < p.periods)
      → Drops p mid new (λ b. is_here c d s b && nat_lt b.block (width p) && agrees room (room_of b))
      → Loses p mid (λ x. (x.course == c) && ((agrees room x.room && agrees day x.day) && agrees period x.period)) new
  from_parts room None None ed es which hd hs a = week_removed p mid new c d s room w.table w.wide a ed es
  from_parts room (Some i) None ed es which hd hs a =
      subst (λ n. Loses p mid (λ x. (x.course == c) && ((agrees room x.room && (n == x.day)) && true)) new) ed
      (day_removed p mid new c d s room w.table w.wide a (subst (λ n. n < p.days) (sym ed) hd) es)
  from_parts room None (Some j) ed es which hd hs a =
      subst (λ n. Loses p mid (λ x. (x.course == c) && ((agrees room x.room && true) && (n == x.period))) new) es
      (period_removed p mid new c d s room w.table w.wide a ed (subst (λ n. n < p.periods) (sym es) hs))
  from_parts room (Some i) (Some j) ed es which hd hs a = absurd (neither which)
    where
      neither : (Some i ≡ None) ⊎ (Some j ≡ None) → ⊥
      neither (inl e) = cc
      neither (inr e) = cc

  pub wide_removed : (g : Pattern) → d ≡ unwrap_or g.day p.days → s ≡ unwrap_or g.period p.periods → (g.day ≡ None) ⊎ (g.period ≡ None)
      → IfSome g.day (λ i. i < p.days) → IfSome g.period (λ j. j < p.periods)
      → Drops p mid new (λ b. is_here c d s b && nat_lt b.block (width p) && agrees g.room (room_of b))
      → Loses p old (λ x. (x.course == c) && has_place_of g x) new
  wide_removed g ed es which hd hs a =
      let l = from_parts g.room g.day g.period ed es which hd hs a in
      record { table = l.table; cells = λ x k. l.cells x k ∙ ap (λ v. v && not ((x.course == c) && has_place_of g x)) (w.cells x k) }

-- ---- courses whose cells went at once

none_last : (b c : Bool) → (b && (c && false)) ≡ false
none_last true true = refl
none_last true false = refl
none_last false c = refl

none_at_all : (a : Bool) → (a && (false || false)) ≡ false
none_at_all true = refl
none_at_all false = refl

pub gone_cell : (p : Problem) (words : List ℕ) → is_plain p words ≡ false → (x : Cell)
    → is_set p words (bit_on p.days p.periods x) ≡ false → has_cell p words x ≡ false
unfolding has_cell
gone_cell p words wide x e =
    ap (λ v. in_force p words && is_set p words (bit_of x) && (is_plain p words || (is_set p words (bit_on x.day p.periods x)
    && (is_set p words (bit_on p.days x.period x) && v)))) e
    ∙ ap (λ v. in_force p words && is_set p words (bit_of x) && (is_plain p words || v))
    (none_last (is_set p words (bit_on x.day p.periods x)) (is_set p words (bit_on p.days x.period x)))
    ∙ ap (λ v. in_force p words && is_set p words (bit_of x) && (v || false)) wide
    ∙ none_at_all (in_force p words && is_set p words (bit_of x))
