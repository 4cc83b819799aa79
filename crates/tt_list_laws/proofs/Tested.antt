-- Tests of the elements of a list, and properties of each element of lists that are appended, joined or mapped.
use Rattle.std.proofs.Common.{◌≡◌, ℕ, zero, suc, Some, subst, Bool, true, false, ◌||◌, List, [], ◌∷◌, ◌++◌, map, refl, ap, ◌∙◌, inl, inr}
use Rattle.std.specs.Prelude.{flat_map, slice_get, IsSomeAnd}
use Rattle.std.specs.List.{list_any, list_all, AllByRecursion}
use Rattle.std.proofs.lemmas.Bool.{and_parts, and_from, and_cases}

-- if each element passes a test, each passes a weaker one
pub all_weaker : {X : Type 0} (p q : X → Bool) (xs : List X) → ((x : X) → p x ≡ true → q x ≡ true) → list_all p xs ≡ true
    → list_all q xs ≡ true
all_weaker p q [] h e = refl
all_weaker p q (x ∷ xs) h e =
    let a = and_parts (p x) (list_all p xs) e in
    and_from (q x) (list_all q xs) (h x a.0) (all_weaker p q xs h a.1)

-- two tests that agree on each element give the same answer for the list
pub list_any-same : {X : Type 0} (p q : X → Bool) (xs : List X) → ((x : X) → p x ≡ q x) → list_any p xs ≡ list_any q xs
list_any-same p q [] h = refl
list_any-same p q (x ∷ xs) h = ap (λ b. b || list_any p xs) (h x) ∙ ap (λ b. q x || b) (list_any-same p q xs h)

-- if some element fails a test, one such element exists, with a property that holds of each
pub fails_with : {X : Type 0} (P : X → Type 0) (test : X → Bool) (xs : List X) → AllByRecursion P xs → list_all test xs ≡ false
    → (x : X) × P x × (test x ≡ false)
fails_with P test [] a e = cc
fails_with P test (x ∷ xs) a e = elim (and_cases (test x) (list_all test xs) e) [
  | inl h ↦ (x, a.0, h)
  | inr h ↦ fails_with P test xs a.1 h
]

-- the element at a place of a list whose elements all pass
pub all_at : {X : Type 0} (test : X → Bool) (Q : X → Type 0) (xs : List X) (i : ℕ) → list_all test xs ≡ true
    → IsSomeAnd (slice_get xs i) Q → (x : X) × (test x ≡ true) × Q x
all_at test Q [] i e h = absurd h
all_at test Q (x ∷ xs) zero e h = (x, (and_parts (test x) (list_all test xs) e).0, h)
all_at test Q (x ∷ xs) (suc i) e h = all_at test Q xs i (and_parts (test x) (list_all test xs) e).1 h

-- if a property holds of each element, it holds of the one at a place
pub each_at : {X : Type 0} (P : X → Type 0) (xs : List X) (k : ℕ) (x : X) → AllByRecursion P xs → slice_get xs k ≡ Some x → P x
each_at P [] k x a e = cc
each_at P (y ∷ ys) zero x a e = let same : y ≡ x = cc in subst P same a.0
each_at P (y ∷ ys) (suc k) x a e = each_at P ys k x a.1 e

-- ---- lists that are appended, joined or mapped

pub each_append : {X : Type 0} (P : X → Type 0) (xs ys : List X) → AllByRecursion P xs → AllByRecursion P ys → AllByRecursion P (xs ++ ys)
each_append P [] ys a b = b
each_append P (x ∷ xs) ys a b = (a.0, each_append P xs ys a.1 b)

pub each_flat : {X Y : Type 0} (P : Y → Type 0) (h : X → List Y) (xs : List X) → AllByRecursion (λ x. AllByRecursion P (h x)) xs
    → AllByRecursion P (flat_map h xs)
each_flat P h [] a = tt
each_flat P h (x ∷ xs) a = each_append P (h x) (flat_map h xs) a.0 (each_flat P h xs a.1)

pub each_map : {X Y : Type 0} (P : Y → Type 0) (h : X → Y) (xs : List X) → AllByRecursion (λ x. P (h x)) xs → AllByRecursion P (map h xs)
each_map P h [] a = tt
each_map P h (x ∷ xs) a = (a.0, each_map P h xs a.1)
