-- Tables that lose cells in turn.
use Rattle.std.proofs.Common.{◌≡◌, ℕ, zero, suc, ◌+◌, ◌<◌, length, Bool, true, false, not, ◌&&◌, ◌||◌, List, [], ◌∷◌, take, refl, sym, ap, ◌∙◌, arith, inl, inr, eq-eqb, ne_eqb}
use Rattle.std.specs.Prelude.{◌==◌, nat_lt, slice_index_or}
use Rattle.std.specs.List.{list_all}
use Rattle.std.proofs.lemmas.Bool.{cases_eq, and_parts, eqb-true, lt-ltb, ltb-true, le-ltb}
use Rattle.std.proofs.Math.Bool.{or-false}
use Rattle.tt_list_laws.proofs.Truth.{same_truth, still_there, taken_twice}
use Rattle.tt_instance.specs.Problem.{Problem}
use Rattle.tt_instance.specs.Cells.{InRange}
use Rattle.tt_instance.specs.declared.cell.Cell.{Cell}
use Rattle.tt_path_tables.specs.Inner.Tables.{has_cell, IsTable, Shows, Loses, is_placed}

-- another number below a bound
pub below_next : (k n : ℕ) → nat_lt k (n + 1) ≡ (nat_lt k n || (k == n))
below_next k n = elim (cases_eq k n) [
  | inl e ↦ lt-ltb k (n + 1) (omega arith) ∙ sym (ap (λ b. b || (k == n)) (le-ltb k n (omega arith)) ∙ eq-eqb k n e)
  | inr e ↦ same_truth (nat_lt k (n + 1)) (nat_lt k n) (λ t. let l = ltb-true k (n + 1) t in lt-ltb k n (omega (arith, e)))
      (λ t. let l = ltb-true k n t in lt-ltb k (n + 1) (omega arith))
      ∙ sym (ap (λ b. nat_lt k n || b) (ne_eqb k n e) ∙ or-false (nat_lt k n))
]

pub placed_at : (c d s : ℕ) (x : Cell) → is_placed c d s x ≡ true → (x.course ≡ c) × (x.day ≡ d) × (x.period ≡ s)
placed_at c d s x e =
    let u = and_parts ((x.course == c) && (x.day == d)) (x.period == s) e in
    let v = and_parts (x.course == c) (x.day == d) u.0 in
    (eqb-true x.course c v.0, eqb-true x.day d v.1, eqb-true x.period s u.1)

-- if one of the first numbers fails a test, the test of all fails
pub failed_within : (t : ℕ → Bool) (i : ℕ) (xs : List ℕ) → i < length xs → (list_all t (take i xs) && t (slice_index_or xs i 0)) ≡ false
    → list_all t xs ≡ false
failed_within t i [] l e = absurd (omega arith)
failed_within t zero (x ∷ xs) l e = ap (λ b. b && list_all t xs) e
failed_within t (suc i) (x ∷ xs) l e = by_test (t x) (failed_within t i xs (omega arith)) e
  where
    by_test : (b : Bool) → ((list_all t (take i xs) && t (slice_index_or xs i 0)) ≡ false → list_all t xs ≡ false)
        → ((b && list_all t (take i xs)) && t (slice_index_or xs i 0)) ≡ false → (b && list_all t xs) ≡ false
    by_test true f e = f e
    by_test false f e = refl

-- two values that agree if a test passes, together with that test
pub both_where : (a b c : Bool) → (a ≡ true → b ≡ c) → (a && b) ≡ (a && c)
both_where true b c h = h refl
both_where false b c h = refl

module _ (p : Problem) (old : List ℕ) where
  pub loses-none : (g : Cell → Bool) → IsTable p old → ((x : Cell) → InRange p x → g x ≡ false) → Loses p old g old
  loses-none g t h = record { table = t; cells = λ x k. still_there (has_cell p old x) (g x) (h x k) }

  pub loses-same : (new : List ℕ) (g k : Cell → Bool) → Loses p old g new → ((x : Cell) → InRange p x → g x ≡ k x) → Loses p old k new
  loses-same new g k l e = record { table = l.table; cells = λ x h. l.cells x h ∙ ap (λ b. has_cell p old x && not b) (e x h) }

  pub loses-more : (mid new : List ℕ) (g h k : Cell → Bool) → Loses p old g mid → Loses p mid h new
      → ((x : Cell) → InRange p x → (g x || h x) ≡ k x) → Loses p old k new
  loses-more mid new g h k a b e = record {
    table = b.table;
    cells = λ x q. b.cells x q ∙ ap (λ t. t && not (h x)) (a.cells x q) ∙ taken_twice (has_cell p old x) (g x) (h x)
        ∙ ap (λ t. has_cell p old x && not t) (e x q);
  }

  pub shows-less : (t g : Cell → Bool) (new : List ℕ) → Shows p t old → Loses p old g new → Shows p (λ x. t x && not (g x)) new
  shows-less t g new a l = record { table = l.table; cells = λ x h. l.cells x h ∙ ap (λ b. b && not (g x)) (a.cells x h) }

  pub shows-same : (t u : Cell → Bool) → Shows p t old → ((x : Cell) → InRange p x → t x ≡ u x) → Shows p u old
  shows-same t u a e = record { table = a.table; cells = λ x h. a.cells x h ∙ e x h }

-- -- another course

or_same : (q : Bool) → (q || q) ≡ q
or_same true = refl
or_same false = refl

joined : (l e a b z : Bool) → ((l && (a && b && z)) || (e && a && b && z)) ≡ ((l || e) && (a && b && z))
joined false false a b z = refl
joined false true a b z = refl
joined true false a b z = or-false (a && b && z)
joined true true a b z = or_same (a && b && z)

pub course_next : (n : ℕ) (c : ℕ) (a b z : Bool) → ((nat_lt c n && (a && b && z)) || ((c == n) && a && b && z)) ≡
    (nat_lt c (n + 1) && (a && b && z))
course_next n c a b z = joined (nat_lt c n) (c == n) a b z ∙ ap (λ l. l && (a && b && z)) (sym (below_next c n))
