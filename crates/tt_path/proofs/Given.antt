-- Tests of the elements that agree with a given number, and which numbers these are.
use Rattle.std.proofs.Common.{◌≡◌, ℕ, zero, suc, ◌+◌, ◌-◌, ◌<◌, ◌≤◌, Bool, true, false, not, ◌&&◌, ◌||◌, List, [], ◌∷◌, Some, None, refl, sym, ap, ◌∙◌, arith, inl, inr, eq-eqb, ne_eqb, le-leb}
use Rattle.std.specs.Prelude.{◌==◌, nat_le, filter}
use Rattle.std.specs.List.{list_any, list_all, range_with_len}
use Rattle.std.proofs.lemmas.Bool.{cases_eq, cases_lt, lt-leb}
use Rattle.std.proofs.Math.Bool.{and-true}
use Rattle.tt_list_laws.specs.Words.{range_below, has_number}
use Rattle.tt_list_laws.proofs.All.{list_all-same}
use Rattle.tt_list_laws.proofs.Below.{all_pass}
use Rattle.tt_list_laws.proofs.Filters.{list_all-of_filter}
use Rattle.tt_list_laws.proofs.Twos.{list_all-swap}
use Rattle.tt_path.specs.Inner.Nested.{numbers_given}

-- ---- tests

-- each element that agrees passes, if the rest agrees
pub all_that_agree : {X : Type 0} (rest : Bool) (p t : X → Bool) (xs : List X) → list_all (λ x. not (rest && p x) || t x) xs ≡
    (not rest || list_all t (filter p xs))
all_that_agree true p t xs = sym (list_all-of_filter t p xs)
all_that_agree false p t xs = all_pass (λ x. true) xs (λ x. refl)

-- ---- numbers below a bound

filter-each : {X : Type 0} (xs : List X) → filter (λ x. true) xs ≡ xs
filter-each [] = refl
filter-each (x ∷ xs) = ap (λ l. x ∷ l) (filter-each xs)

none_from : (m a n : ℕ) → m < a → filter (λ k. m == k) (range_with_len a n) ≡ []
none_from m a zero h = refl
none_from m a (suc n) h = rw (ne_eqb m a (λ e. omega arith)) (none_from m (a + 1) n (omega arith))

none_to : (m a n : ℕ) → a + n ≤ m → filter (λ k. m == k) (range_with_len a n) ≡ []
none_to m a zero h = refl
none_to m a (suc n) h = rw (ne_eqb m a (λ e. omega arith)) (none_to m (a + 1) n (omega arith))

one_from : (m a n : ℕ) → a ≤ m → m < a + n → filter (λ k. m == k) (range_with_len a n) ≡ m ∷ []
one_from m a zero h k = absurd (omega arith)
one_from m a (suc n) h k = elim (cases_eq m a) [
  | inl e ↦ rw (eq-eqb m a e) (ap (λ l. a ∷ l) (none_from m (a + 1) n (omega arith)) ∙ ap (λ i. i ∷ []) (sym e))
  | inr e ↦ rw (ne_eqb m a e) (one_from m (a + 1) n (omega arith) (omega arith))
]

pub each_number : (n : ℕ) → range_with_len 0 (n - 0) ≡ numbers_given None n
each_number n = let e : n - 0 ≡ n = omega arith in ap (range_with_len 0) e ∙ sym (filter-each (range_below n))

pub one_number : (m n : ℕ) → m < n → range_with_len m (m + 1 - m) ≡ numbers_given (Some m) n
one_number m n h = let e : m + 1 - m ≡ 1 = omega arith in ap (range_with_len m) e ∙ sym (one_from m 0 n (omega arith) (omega arith))

pub no_number : (m n : ℕ) → n ≤ m → range_with_len m (m - m) ≡ numbers_given (Some m) n
no_number m n h = let e : m - m ≡ 0 = omega arith in ap (range_with_len m) e ∙ sym (none_to m 0 n (omega arith))

-- ---- numbers of a list

none_or : {X : Type 0} (p : X → Bool) (b : Bool) (xs : List X) → (not (list_any p xs) || b) ≡ list_all (λ x. not (p x) || b) xs
none_or p b [] = refl
none_or p b (x ∷ xs) = by_tests (p x) (list_any p xs) b ∙ ap (λ l. (not (p x) || b) && l) (none_or p b xs)
  where
    by_tests : (s t c : Bool) → (not (s || t) || c) ≡ ((not s || c) && (not t || c))
    by_tests true true true = refl
    by_tests true false true = refl
    by_tests true t false = refl
    by_tests false t c = refl

-- a test of one number below a bound
pub at_number : (t : ℕ → Bool) (n m : ℕ) → list_all (λ k. not (m == k) || t k) (range_below n) ≡ (nat_le n m || t m)
at_number t n m = sym (list_all-of_filter t (λ k. m == k) (range_below n)) ∙ elim (cases_lt m n) [
  | inl h ↦ ap (list_all t) (one_from m 0 n (omega arith) (omega arith)) ∙ and-true (t m) ∙ sym (rw (lt-leb n m h) refl)
  | inr h ↦ ap (list_all t) (none_to m 0 n (omega arith)) ∙ sym (rw (le-leb n m h) refl)
]

-- a test of the numbers below a bound that a list has
pub list_all-of_members : (t : ℕ → Bool) (n : ℕ) (ms : List ℕ) → list_all (λ k. not (has_number ms k) || t k) (range_below n) ≡ list_all
    (λ m. nat_le n m || t m) ms
list_all-of_members t n ms =
    list_all-same (λ k. not (has_number ms k) || t k) (λ k. list_all (λ m. not (m == k) || t k) ms) (range_below n)
    (λ k. none_or (λ m. m == k) (t k) ms)
    ∙ list_all-swap (λ k m. not (m == k) || t k) (range_below n) ms
    ∙ list_all-same (λ m. list_all (λ k. not (m == k) || t k) (range_below n)) (λ m. nat_le n m || t m) ms (at_number t n)
