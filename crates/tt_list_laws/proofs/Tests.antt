-- Tests of elements, and sums over numbers.
use Rattle.std.proofs.Common.{◌≡◌, ℕ, zero, suc, ◌+◌, ◌-◌, ◌<◌, ◌≤◌, Bool, true, false, ◌||◌, List, [], ◌∷◌, refl, sym, ap, ◌∙◌, arith, inl, inr, eq-eqb, ne_eqb}
use Rattle.std.specs.Prelude.{◌==◌, sum_by, count_by, All}
use Rattle.std.specs.List.{list_any}
use Rattle.std.proofs.lemmas.Bool.{cases_eq, cases_Bool, both_ways}
use Rattle.std.proofs.lemmas.List.Elements.{All-head, All-tail}
use Rattle.tt_list_laws.specs.Words.{range_below}
use Rattle.tt_list_laws.proofs.Numbers.{sum_more}
use Rattle.tt_list_laws.proofs.Sums.{one_if, count_if_any, any_if_count}

-- ---- tests

-- two tests of equality that follow from each other are the same
pub same_test : (a b c d : ℕ) → (a ≡ b → c ≡ d) → (c ≡ d → a ≡ b) → (a == b) ≡ (c == d)
same_test a b c d there back = elim (cases_eq c d) [
  | inl e ↦ eq-eqb a b (back e) ∙ sym (eq-eqb c d e)
  | inr e ↦ ne_eqb a b (λ h. e (there h)) ∙ sym (ne_eqb c d e)
]

-- a test of equality is the same in the other order
pub test_turned : (a b : ℕ) → (a == b) ≡ (b == a)
test_turned a b = same_test a b b a sym sym

-- two tests that agree at each element with a property give the same answer for the list
pub list_any-same_at : {X : Type 0} (P : X → Type 0) (p q : X → Bool) (xs : List X) → All P xs → ((x : X) → P x → p x ≡ q x)
    → list_any p xs ≡ list_any q xs
list_any-same_at P p q [] a h = refl
list_any-same_at P p q (x ∷ xs) a h = ap (λ b. b || list_any p xs) (h x (All-head P x xs a))
    ∙ ap (λ b. q x || b) (list_any-same_at P p q xs (All-tail P x xs a) h)

-- some element passes one of two tests
pub list_any-or : {X : Type 0} (p q : X → Bool) (xs : List X) → list_any (λ x. p x || q x) xs ≡ (list_any p xs || list_any q xs)
list_any-or p q [] = refl
list_any-or p q (x ∷ xs) = ap (λ b. (p x || q x) || b) (list_any-or p q xs) ∙ by_tests (p x) (q x) (list_any p xs) (list_any q xs)
  where
    by_tests : (a b c d : Bool) → ((a || b) || (c || d)) ≡ ((a || c) || (b || d))
    by_tests true b c d = refl
    by_tests false true true d = refl
    by_tests false true false d = refl
    by_tests false false c d = refl

-- the elements that pass are the first one and the others
pub first_and_others : {X : Type 0} (p : X → Bool) (xs : List X) → (count_by p xs - 1) + one_if (list_any p xs) ≡ count_by p xs
first_and_others p xs = elim (cases_Bool (list_any p xs)) [
  | inl e ↦ rw e (omega (arith, count_if_any p xs e))
  | inr e ↦ rw e (none (count_by p xs) (λ h. both_ways (list_any p xs) e (any_if_count p xs h)))
]
  where
    none : (n : ℕ) → (1 ≤ n → ⊥) → (n - 1) + 0 ≡ n
    none zero h = refl
    none (suc n) h = absurd (h (omega arith))

-- ---- sums over numbers

-- sums of terms that agree below a bound
pub sum_by-same_below : (f g : ℕ → ℕ) (n : ℕ) → ((k : ℕ) → k < n → f k ≡ g k) → sum_by f (range_below n) ≡ sum_by g (range_below n)
sum_by-same_below f g zero h = refl
sum_by-same_below f g (suc n) h =
    let e : suc n ≡ n + 1 = omega arith in
    let a : sum_by f (range_below (suc n)) ≡ sum_by f (range_below n) + f n = ap (λ i. sum_by f (range_below i)) e ∙ sum_more f n in
    let b : sum_by g (range_below (suc n)) ≡ sum_by g (range_below n) + g n = ap (λ i. sum_by g (range_below i)) e ∙ sum_more g n in
    omega (arith, a, b, h n (omega arith), sum_by-same_below f g n (λ k l. h k (omega arith)))

-- a sum over a + n numbers is the sum over the first a and the sum over the other n
pub sum_further : (f : ℕ → ℕ) (a n : ℕ) → sum_by f (range_below (a + n)) ≡ sum_by f (range_below a) + sum_by (λ s. f (a + s))
    (range_below n)
sum_further f a zero = let e : a + 0 ≡ a = omega arith in rw e (omega arith)
sum_further f a (suc n) =
    let e : a + suc n ≡ (a + n) + 1 = omega arith in
    let g : suc n ≡ n + 1 = omega arith in
    let whole : sum_by f (range_below (a + suc n)) ≡ sum_by f (range_below (a + n)) + f (a + n) = ap (λ i. sum_by f (range_below i)) e
    ∙ sum_more f (a + n) in
    let rest : sum_by (λ s. f (a + s)) (range_below (suc n)) ≡ sum_by (λ s. f (a + s)) (range_below n) + f (a + n) =
    ap (λ i. sum_by (λ s. f (a + s)) (range_below i)) g ∙ sum_more (λ s. f (a + s)) n in
    omega (arith, whole, rest, sum_further f a n)
