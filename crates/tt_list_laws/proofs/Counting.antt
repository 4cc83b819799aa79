-- How many elements pass: all of them, at most one, or no pair.
use Rattle.std.proofs.Common.{◌≡◌, ℕ, suc, ◌+◌, ◌≤◌, Bool, true, false, not, cond, ◌||◌, List, [], ◌∷◌, length, refl, sym, ap, ◌∙◌, arith, zero-le, inl, inr}
use Rattle.std.specs.Prelude.{All, Contains, sum_by, count_by}
use Rattle.std.specs.List.{AllByRecursion}
use Rattle.std.proofs.lemmas.List.Sums.{sum_by-cons, count_by-le-length}
use Rattle.std.proofs.lemmas.Bool.{cases_lt}
use Rattle.std.proofs.lemmas.List.Elements.{All-head, All-tail}
use Rattle.tt_list_laws.specs.Words.{count_pairs}
use Rattle.tt_list_laws.proofs.Sums.{sum_by-le, cond-le, one_if, one_if_true, any_if_count, count_by-cons}
use Rattle.tt_list_laws.proofs.Members.{each_member, member_from_any, none_counted}

module _ {X : Type 0} where
  -- the elements that pass and those that fail are all elements
  pub count_both : (q : X → Bool) (xs : List X) → count_by q xs + count_by (λ x. not (q x)) xs ≡ length xs
  count_both q [] = refl
  count_both q (x ∷ xs) = omega (arith, count_by-cons q x xs, count_by-cons (λ y. not (q y)) x xs, count_both q xs, by_test (q x))
    where
      by_test : (b : Bool) → one_if b + one_if (not b) ≡ 1
      by_test true = refl
      by_test false = refl

  -- if each element passes, the count is the length
  pub count_all : (q : X → Bool) (xs : List X) → AllByRecursion (λ x. q x ≡ true) xs → count_by q xs ≡ length xs
  count_all q [] a = refl
  count_all q (x ∷ xs) a = omega (arith, count_by-cons q x xs, one_if_true (q x) a.0, count_all q xs a.1)

  -- a sum of terms that are all 1 is the length
  pub sum_by-ones : (xs : List X) → sum_by (λ x. 1) xs ≡ length xs
  sum_by-ones [] = refl
  sum_by-ones (x ∷ xs) = let one : X → ℕ = λ y. 1 in omega (arith, sum_by-cons one x xs, sum_by-ones xs)

  -- if each term is at least 1, the length is at most the sum
  pub length-le_sum : (f : X → ℕ) (xs : List X) → AllByRecursion (λ x. 1 ≤ f x) xs → length xs ≤ sum_by f xs
  length-le_sum f [] a = zero-le
  length-le_sum f (x ∷ xs) a = omega (arith, sum_by-cons f x xs, a.0, length-le_sum f xs a.1)

  -- if each element occurs once, and all elements that pass are the same, at most one passes
  pub one_passes : (same : X → X → Bool) (p : X → Bool) (xs : List X) → ((x : X) → Contains xs x → count_by (same x) xs ≤ 1)
      → ((x y : X) → Contains xs x → Contains xs y → p x ≡ true → p y ≡ true → same x y ≡ true) → count_by p xs ≤ 1
  one_passes same p xs once alike = elim (cases_lt 0 (count_by p xs)) [
    | inl h ↦
        let w = member_from_any p xs (any_if_count p xs h) in
        let k = sum_by-le (λ y. one_if (p y)) (λ y. one_if (same w.0 y)) xs
        (each_member (λ y. one_if (p y) ≤ one_if (same w.0 y)) xs (λ y m. cond-le (p y) (same w.0 y) (λ e. alike w.0 y w.1 m w.2 e))) in
        omega (arith, k, once w.0 w.1)
    | inr h ↦ omega arith
  ]

  -- if no two elements are related, there is no pair
  pub pairs_none : (related : X → X → Bool) (xs : List X) → ((x y : X) → Contains xs x → Contains xs y → related x y ≡ true → ⊥)
      → count_pairs related xs ≡ 0
  pairs_none related [] f = refl
  pairs_none related (x ∷ xs) f =
      let first = none_counted (related x) xs (λ y m e. f x y (here x xs) (behind x xs y m) e) in
      omega (arith, first, pairs_none related xs (λ y z m n e. f y z (behind x xs y m) (behind x xs z n) e))
    where
      here : (y : X) (ys : List X) → Contains (y ∷ ys) y
      here y ys = (0, omega arith, refl)

      behind : (y : X) (ys : List X) (z : X) → Contains ys z → Contains (y ∷ ys) z
      behind y ys z m = (suc m.0, omega (arith, m.1), m.2)

-- a count of at most one, if a count of one implies that the test passes
pub counted_once : (n : ℕ) (b : Bool) → n ≤ 1 → (1 ≤ n → b ≡ true) → n ≤ one_if b
counted_once n b h f = elim (cases_lt 0 n) [
  | inl k ↦ let e = one_if_true b (f k) in omega arith
  | inr k ↦ omega arith
]

-- a term that counts if a test passes, at most another such term
pub cond-le_cond : (b : Bool) (x y : ℕ) → (b ≡ true → x ≤ y) → cond b x 0 ≤ cond b y 0
cond-le_cond true x y h = h refl
cond-le_cond false x y h = zero-le

-- counts by two tests that agree on each element are equal
pub count_by-same_at : {X : Type 0} (P : X → Type 0) (p q : X → Bool) (xs : List X) → All P xs → ((x : X) → P x → p x ≡ q x)
    → count_by p xs ≡ count_by q xs
count_by-same_at P p q [] all same = refl
count_by-same_at P p q (x ∷ xs) all same =
    count_by-cons p x xs
    ∙ ap (λ b. one_if b + count_by p xs) (same x (All-head P x xs all))
    ∙ ap (λ n. one_if (q x) + n) (count_by-same_at P p q xs (All-tail P x xs all) same)
    ∙ sym (count_by-cons q x xs)

-- a count is at most the length of the list
pub few_counted : {X : Type 0} (p : X → Bool) (xs : List X) (n : ℕ) → n ≡ count_by p xs → n ≤ length xs
few_counted p xs n e = omega (arith, e, count_by-le-length p xs)

-- a term whose test never passes is 0
pub nothing_if : (b : Bool) (k : ℕ) → (b ≡ true → ⊥) → cond b k 0 ≤ 0
nothing_if true k h = absurd (h refl)
nothing_if false k h = zero-le

-- a term that counts if a test passes, at most two other such terms
pub cond-le_plus : (b : Bool) (u x d : ℕ) → (b ≡ true → u ≤ x + d) → cond b u 0 ≤ cond b x 0 + cond b d 0
cond-le_plus true u x d h = h refl
cond-le_plus false u x d h = zero-le

-- a term that counts if a test passes, the same as another such term
pub cond-same : (b : Bool) (x y : ℕ) → (b ≡ true → x ≡ y) → cond b x 0 ≡ cond b y 0
cond-same true x y h = h refl
cond-same false x y h = refl

-- the count of "one of two tests passes" is at most the counts of both
pub or-le : (a b : Bool) → one_if (a || b) ≤ one_if a + one_if b
or-le true b = omega arith
or-le false b = omega arith
