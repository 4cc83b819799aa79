-- The first period that passes one of two tests.
use Rattle.std.proofs.Common.{◌≡◌, ℕ, zero, suc, ◌+◌, ◌*◌, ◌/◌, ◌%◌, ◌<◌, ◌≤◌, Bool, true, false, ◌&&◌, ◌||◌, List, [], ◌∷◌, ◌++◌, length, take, Option, Some, None, refl, sym, ap, subst, ◌∙◌, arith, inl, inr}
use Rattle.std.specs.Prelude.{slice_index_or}
use Rattle.std.specs.Prelude.{nat_lt, Contains, MatchOption, unwrap_or}
use Rattle.std.specs.List.{list_any}
use Rattle.std.proofs.lemmas.Bool.{and_from, and_parts, both_ways, cases_lt, false_from_ne_true, false≢true, le-ltb, or_cases, or_left, or_right}
use Rattle.std.proofs.lemmas.List.{take_more}
use Rattle.std.proofs.lemmas.List.Folds.{list_any-append}
use Rattle.std.proofs.Math.Nat.{div-lt_iff_lt-mul, mod-lt}
use Rattle.tt_list_laws.specs.Words.{range_below}
use Rattle.tt_list_laws.proofs.Members.{member_from_any}
use Rattle.tt_list_laws.proofs.Range.{below_member}
use Rattle.tt_instance.specs.Problem.{Problem}
use Rattle.tt_instance.specs.Cells.{InRange, all_rooms, cell, slot}
use Rattle.tt_instance.specs.declared.cell.Cell.{Cell}
use Rattle.tt_path.specs.Facts.{agrees}
use Rattle.tt_path.specs.declared.facts.Pattern.{Pattern}
use Rattle.tt_path_tables.specs.Inner.Struck.{is_left, is_left_to}
use Rattle.tt_path_tables.specs.Inner.Tables.{has_cell, is_open}
use Rattle.tt_path_tables.specs.Inner.Slots.{is_allowed, is_left_in, IsNone, IsFirst}

neither : (a b : Bool) → a ≡ false → b ≡ false → (a || b) ≡ false
neither true b e f = e
neither false b e f = f

module _ (t u v : ℕ → Bool) (joined : (k : ℕ) → v k ≡ (t k || u k)) (from to : ℕ) where
  both_fail : (k : ℕ) → t k ≡ false → u k ≡ false → v k ≡ false
  both_fail k e f = joined k ∙ neither (t k) (u k) e f

  pub none_none : IsNone t from to → IsNone u from to → IsNone v from to
  none_none a b = record { none = λ k low high. both_fail k (a.none k low high) (b.none k low high) }

  -- nothing before, and now a first one
  pub none_first : IsNone t from to → (k : ℕ) → IsFirst u from to k → IsFirst v from to k
  none_first a k b = record {
    from_here = b.from_here;
    within = b.within;
    passes = joined k ∙ or_right (t k) (u k) b.passes;
    before = λ j low high. let w = b.within in both_fail j (a.none j low (omega (arith, high, w))) (b.before j low high);
  }

  -- the same first one
  pub first_none : (e : ℕ) → IsFirst t from to e → IsNone u from e → IsFirst v from to e
  first_none e a b = record {
    from_here = a.from_here;
    within = a.within;
    passes = joined e ∙ or_left (t e) (u e) a.passes;
    before = λ j low high. both_fail j (a.before j low high) (b.none j low high);
  }

  -- an earlier first one
  pub first_first : (e : ℕ) → IsFirst t from to e → (k : ℕ) → IsFirst u from e k → IsFirst v from to k
  first_first e a k b = record {
    from_here = b.from_here;
    within = (let w = b.within in let z = a.within in omega (arith, w, z));
    passes = joined k ∙ or_right (t k) (u k) b.passes;
    before = λ j low high. let w = b.within in both_fail j (a.before j low (omega (arith, high, w))) (b.before j low high);
  }

  -- whether or not there was one before
  pub then_first : (o : Option ℕ) → MatchOption o (IsNone t from to) (λ e. IsFirst t from to e) → (k : ℕ)
      → IsFirst u from (unwrap_or o to) k
      → IsFirst v from to k
  then_first None a k b = none_first a k b
  then_first (Some e) a k b = first_first e a k b

  pub then_none : (o : Option ℕ) → MatchOption o (IsNone t from to) (λ e. IsFirst t from to e) → IsNone u from (unwrap_or o to)
      → MatchOption o (IsNone v from to) (λ e. IsFirst v from to e)
  then_none None a b = none_none a b
  then_none (Some e) a b = first_none e a b

-- the first number of all is the first one of any larger test that it passes
pub first_of_all : (t v : ℕ → Bool) (from to : ℕ) → IsFirst t from to from → (t from ≡ true → v from ≡ true) → IsFirst v from to from
first_of_all t v from to a more = record {
  from_here = omega arith;
  within = a.within;
  passes = more a.passes;
  before = λ j low high. absurd (omega (arith, low, high));
}

-- nothing is left to look for if the first number of all passes, or if there are no numbers
pub ended : (t v : ℕ → Bool) (from to : ℕ) (o : Option ℕ) → MatchOption o (IsNone t from to) (λ k. IsFirst t from to k)
    → unwrap_or o to ≡ from → (t from ≡ true → v from ≡ true) → MatchOption o (IsNone v from to) (λ k. IsFirst v from to k)
ended t v from to None a e more = record { none = λ k low high. absurd (omega (arith, low, high, e)) }
ended t v from to (Some k) a e more =
    subst (λ j. IsFirst v from to j) (sym e) (first_of_all t v from to (subst (λ j. IsFirst t from to j) e a) more)

any_take : (t : ℕ → Bool) (i : ℕ) (xs : List ℕ) → list_any t (take i xs) ≡ true → list_any t xs ≡ true
any_take t zero xs e = absurd (false≢true e)
any_take t (suc i) [] e = absurd (false≢true e)
any_take t (suc i) (x ∷ xs) e = elim (or_cases (t x) (list_any t (take i xs)) e) [
  | inl h ↦ or_left (t x) (list_any t xs) h
  | inr h ↦ or_right (t x) (list_any t xs) (any_take t i xs h)
]

over_or : (a b c : Bool) → (a && (b || c)) ≡ ((a && b) || (a && c))
over_or true b c = refl
over_or false b c = refl

module _ (p : Problem) (free : List ℕ) (g : Pattern) where
  pub all_more : (ks : List ℕ) (i k : ℕ) → is_left_in p free g (take i ks) k ≡ true → is_left_in p free g ks k ≡ true
  all_more ks i k e =
      let left = is_left_to p free g (k / p.periods) (k % p.periods) in
      let u = and_parts (is_allowed p g k) (list_any left (take i ks)) e in
      and_from (is_allowed p g k) (list_any left ks) u.0 (any_take left i ks u.1)

  pub one_more : (ks : List ℕ) (i : ℕ) → i < length ks → (k : ℕ)
      → is_left_in p free g (take (i + 1) ks) k ≡ (is_left_in p free g (take i ks) k || is_left_in p free g (slice_index_or ks i 0 ∷ []) k)
  one_more ks i h k =
      ap (λ l. is_left_in p free g l k) (take_more ks i 0 h)
      ∙ ap (λ b. is_allowed p g k && b) (list_any-append (is_left_to p free g (k / p.periods) (k % p.periods)) (take i ks)
      (slice_index_or ks i 0 ∷ []))
      ∙ over_or (is_allowed p g k) (is_left p free g (k / p.periods) (k % p.periods) (take i ks))
      (is_left p free g (k / p.periods) (k % p.periods) (slice_index_or ks i 0 ∷ []))

-- ---- a course without cells

never : (a b : Bool) → (a && ((b && false) || false)) ≡ false
never true true = refl
never true false = refl
never false b = refl

absent : (a v : Bool) → (a && ((false && v) || false)) ≡ false
absent true v = refl
absent false v = refl

module _ (p : Problem) (free : List ℕ) (g : Pattern) (c : ℕ) (from to : ℕ) where
  -- one that is out of range
  pub none_out : length p.courses ≤ c → IsNone (is_left_in p free g (c ∷ [])) from to
  none_out past = record {
    none = λ k low high.
        let open_there = list_any (is_open p free g.room c (k / p.periods) (k % p.periods)) (all_rooms p) in
        ap (λ b. is_allowed p g k && ((b && open_there) || false)) (le-ltb c (length p.courses) past)
        ∙ absent (is_allowed p g k) open_there;
  }

  -- one all of whose cells are gone
  pub none_gone : c < length p.courses → to ≤ p.days * p.periods → ((x : Cell) → InRange p x → x.course ≡ c → has_cell p free x ≡ false)
      → IsNone (is_left_in p free g (c ∷ [])) from to
  none_gone inside bound gone = record {
    none = λ k low high.
        ap (λ b. is_allowed p g k && ((nat_lt c (length p.courses) && b) || false)) (closed k (omega (arith, high, bound)))
        ∙ never (is_allowed p g k) (nat_lt c (length p.courses));
  }
    where
      closed : (k : ℕ) → k < p.days * p.periods → list_any (is_open p free g.room c (k / p.periods) (k % p.periods)) (all_rooms p) ≡ false
      closed k lt = false_from_ne_true (list_any (is_open p free g.room c d s) (all_rooms p)) (λ t.
          let m = member_from_any (is_open p free g.room c d s) (all_rooms p) t in
          let x : Cell = cell c m.0 (slot d s) in
          let there = and_parts (has_cell p free x) (agrees g.room m.0) m.2 in
          both_ways (has_cell p free x)
          (gone x (record {
            course = inside;
            room = below_member (length p.rooms) m.0 m.1;
            day = day some;
            period = period some;
          }) refl) there.0)
        where
          d : ℕ
          d = k / p.periods

          s : ℕ
          s = k % p.periods

          some : 0 < p.periods
          some = elim (cases_lt 0 p.periods) [
            | inl h ↦ h
            | inr h ↦
                let none : p.periods ≡ 0 = omega (arith, h) in
                let empty : p.days * p.periods ≡ 0 = ap (λ n. p.days * n) none ∙ omega arith in
                absurd (omega (arith, lt, empty))
          ]

          day : 0 < p.periods → k / p.periods < p.days
          day h = (div-lt_iff_lt-mul h).1 lt

          period : 0 < p.periods → k % p.periods < p.periods
          period h = mod-lt k h
