-- Sums over numbers and over the elements of a list, and the elements that pass a filter.
use Rattle.std.proofs.Common.{◌≡◌, ℕ, suc, ◌+◌, ◌-◌, ◌≤◌, Bool, true, false, List, [], ◌∷◌, cond, length, refl, sym, ap, ◌∙◌, subst, arith, inl, inr}
use Rattle.std.specs.Prelude.{◌⊎◌, Contains, filter, sum_by, slice_index}
use Rattle.std.proofs.lemmas.Bool.{both_ways}
use Rattle.std.proofs.lemmas.List.Elements.{Contains-append_right}
use Rattle.std.proofs.lemmas.List.Sums.{sum_by-cons}
use Rattle.tt_list_laws.specs.Words.{range_below}
use Rattle.tt_list_laws.proofs.Members.{each_member, member_cases}
use Rattle.tt_list_laws.proofs.Sums.{sum_by-le, sum_by-same}
use Rattle.tt_list_laws.proofs.Tests.{sum_further}

-- ---- sums

-- a sum over the first numbers is no more than a sum over more of them
pub sum_first : (f : ℕ → ℕ) (a n : ℕ) → a ≤ n → sum_by f (range_below a) ≤ sum_by f (range_below n)
sum_first f a n h =
    let e : a + (n - a) ≡ n = omega arith in
    let k : sum_by f (range_below (a + (n - a))) ≡ sum_by f (range_below n) = ap (λ i. sum_by f (range_below i)) e in
    omega (arith, k, sum_further f a (n - a))

-- the first term plus the sum of all later terms
pub sum_head : (f : ℕ → ℕ) (n : ℕ) → sum_by f (range_below (suc n)) ≡ f 0 + sum_by (λ s. f (suc s)) (range_below n)
sum_head f n =
    let e : suc n ≡ 1 + n = omega arith in
    let first : sum_by f (range_below 1) ≡ f 0 = omega arith in
    let rest = sum_by-same (λ s. f (1 + s)) (λ s. f (suc s)) (range_below n) (λ s. let i : 1 + s ≡ suc s = omega arith in ap f i) in
    omega (arith, ap (λ i. sum_by f (range_below i)) e, sum_further f 1 n, first, rest)

-- a sum over the indices of a list is the sum over its elements
pub sum_indices : (f : ℕ → ℕ) (xs : List ℕ) → sum_by (λ i. f (slice_index xs i)) (range_below (length xs)) ≡ sum_by f xs
sum_indices f [] = refl
sum_indices f (x ∷ xs) = omega (arith, sum_head (λ i. f (slice_index (x ∷ xs) i)) (length xs), sum_by-cons f x xs, sum_indices f xs)

-- sums of terms that agree at each element are equal
pub sum_by-same_member : {X : Type 0} (f h : X → ℕ) (xs : List X) → ((x : X) → Contains xs x → f x ≡ h x) → sum_by f xs ≡ sum_by h xs
sum_by-same_member f h xs same =
    let a = sum_by-le f h xs (each_member (λ x. f x ≤ h x) xs (λ x m. omega (arith, same x m))) in
    let b = sum_by-le h f xs (each_member (λ x. h x ≤ f x) xs (λ x m. omega (arith, same x m))) in
    omega arith

-- ---- filters

-- an element that passes the test is in the filtered list
pub passing_member : {X : Type 0} (p : X → Bool) (xs : List X) (x : X) → Contains xs x → p x ≡ true → Contains (filter p xs) x
passing_member p [] x h e = absurd (omega (arith, h.1))
passing_member {X} p (y ∷ ys) x h e = by_test (p y) refl (λ m. passing_member p ys x m e)
  where
    by_test : (b : Bool) → p y ≡ b → (Contains ys x → Contains (filter p ys) x) → Contains (cond b (y ∷ filter p ys) (filter p ys)) x
    by_test true b later = elim (member_cases y ys x h) [
      | inl same ↦ (0, omega arith, same)
      | inr m ↦ let k = later m in (suc k.0, omega (arith, k.1), k.2)
    ]
    by_test false b later = elim (member_cases y ys x h) [
      | inl same ↦ absurd (both_ways (p y) b (subst (λ z. p z ≡ true) (sym same) e))
      | inr m ↦ later m
    ]

-- an element of the filtered list is in the original list
pub member_before : {X : Type 0} (p : X → Bool) (xs : List X) (x : X) → Contains (filter p xs) x → Contains xs x
member_before p [] x h = h
member_before {X} p (y ∷ ys) x h = by_test (p y) (λ m. member_before p ys x m) h
  where
    behind : Contains ys x → Contains (y ∷ ys) x
    behind m = Contains-append_right (y ∷ []) ys x m

    by_test : (b : Bool) → (Contains (filter p ys) x → Contains ys x) → Contains (cond b (y ∷ filter p ys) (filter p ys)) x
        → Contains (y ∷ ys) x
    by_test true later m = elim (member_cases y (filter p ys) x m) [
      | inl same ↦ (0, omega arith, same)
      | inr k ↦ behind (later k)
    ]
    by_test false later m = behind (later m)

-- -- writes to tables

-- after two writes, an entry is new or unchanged
pub made-more : (Made : ℕ → ℕ → Type 0) (old mid new : List ℕ)
    → ((k : ℕ) → (slice_index mid k ≡ slice_index old k) ⊎ Made k (slice_index mid k))
    → ((k : ℕ) → (slice_index new k ≡ slice_index mid k) ⊎ Made k (slice_index new k)) → (k : ℕ)
    → (slice_index new k ≡ slice_index old k) ⊎ Made k (slice_index new k)
made-more Made old mid new before now k = elim (now k) [
  | inl e ↦ elim (before k) [
    | inl f ↦ inl (e ∙ f)
    | inr m ↦ inr (subst (Made k) (sym e) m)
  ]
  | inr m ↦ inr m
]
