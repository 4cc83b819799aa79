-- Elements of a list: properties of each, and relations that no two of them can have.
use Rattle.std.proofs.Common.{◌≡◌, ℕ, ◌+◌, ◌≤◌, ◌<◌, Bool, true, false, not, ◌&&◌, List, [], ◌∷◌, ◌++◌, map, length, get_or, refl, sym, ap, ◌∙◌, subst, arith, zero, suc, inl, inr, le_of_suc-le-suc}
use Rattle.std.specs.Prelude.{sum_by, count_by, flat_map, Contains, ◌⊎◌}
use Rattle.std.specs.List.{list_any, list_all, range_with_len, AllByRecursion}
use Rattle.std.proofs.lemmas.List.Elements.{All-contains, All-from_recursion, recursion_from_All, Contains-get_or}
use Rattle.std.proofs.lemmas.List.Folds.{list_any_at, Any-from_list_any, list_all-map, list_all-append}
use Rattle.std.proofs.lemmas.List.Sums.{get_or-le-sum_by}
use Rattle.std.proofs.lemmas.List.FromFn.{length-range_with_len, get_or-range_with_len}
use Rattle.std.proofs.lemmas.Bool.{and_from, and_parts, false_from_ne_true, not_from_false, cases_lt}
use Rattle.tt_list_laws.specs.Words.{range_below, each_two, count_pairs}
use Rattle.tt_list_laws.proofs.Sums.{one_if, count_by-cons, count_if_any, any_if_count}

module _ {X : Type 0} where
  pub at_member : (P : X → Type 0) (xs : List X) (x : X) → AllByRecursion P xs → Contains xs x → P x
  at_member P xs x a h = All-contains P xs x (All-from_recursion P xs a) h

  pub each_member : (P : X → Type 0) (xs : List X) → ((x : X) → Contains xs x → P x) → AllByRecursion P xs
  each_member P xs f = recursion_from_All P xs (λ k d h. f (get_or xs k d) (Contains-get_or xs k d h))

  pub any_member : (p : X → Bool) (xs : List X) (x : X) → Contains xs x → p x ≡ true → list_any p xs ≡ true
  any_member p xs x h e = list_any_at p xs h.0 x h.1 (rw h.2 e)

  pub member_from_any : (p : X → Bool) (xs : List X) → list_any p xs ≡ true → (x : X) × Contains xs x × (p x ≡ true)
  member_from_any p xs e = let a = Any-from_list_any p xs e in (a.1, (a.0, a.2, a.3), a.4)

  pub member-le : (f : X → ℕ) (xs : List X) (x : X) → Contains xs x → f x ≤ sum_by f xs
  member-le f xs x h = subst (λ y. f y ≤ sum_by f xs) h.2 (get_or-le-sum_by f xs h.0 x h.1)

  pub member_cases : (y : X) (xs : List X) (x : X) → Contains (y ∷ xs) x → (y ≡ x) ⊎ Contains xs x
  member_cases y xs x h = by_place h.0 h.1 h.2
    where
      by_place : (k : ℕ) → k < length (y ∷ xs) → get_or (y ∷ xs) k x ≡ x → (y ≡ x) ⊎ Contains xs x
      by_place zero l e = inl e
      by_place (suc k) l e = inr (k, le_of_suc-le-suc l, e)

  pub none_passes : (p : X → Bool) (xs : List X) (x : X) → count_by p xs ≡ 0 → Contains xs x → p x ≡ false
  none_passes p xs x e h = false_from_ne_true (p x) (λ t. let c = count_if_any p xs (any_member p xs x h t) in omega arith)

  pub none_counted : (p : X → Bool) (xs : List X) → ((x : X) → Contains xs x → p x ≡ true → ⊥) → count_by p xs ≡ 0
  none_counted p xs f = elim (cases_lt 0 (count_by p xs)) [
    | inl h ↦ let w = member_from_any p xs (any_if_count p xs h) in absurd (f w.0 w.1 w.2)
    | inr h ↦ omega arith
  ]

  pub count_by-split : (p q : X → Bool) (xs : List X) → count_by p xs ≡ count_by (λ x. p x && q x) xs + count_by (λ x. p x && not (q x)) xs
  count_by-split p q [] = refl
  count_by-split p q (x ∷ xs) =
      omega (
        arith,
        count_by-cons p x xs,
        count_by-cons (λ z. p z && q z) x xs,
        count_by-cons (λ z. p z && not (q z)) x xs,
        count_by-split p q xs,
        by_tests (p x) (q x),
      )
    where
      by_tests : (a b : Bool) → one_if a ≡ one_if (a && b) + one_if (a && not b)
      by_tests true true = refl
      by_tests true false = refl
      by_tests false b = refl

  -- if at most one element passes, two that pass are the same
  pub only_one : (same : X → X → Bool) (p : X → Bool) (xs : List X) (x y : X) → same x x ≡ true → count_by p xs ≤ 1 → Contains xs x
      → Contains xs y → p x ≡ true → p y ≡ true → same x y ≡ false → ⊥
  only_one same p xs x y r c hx hy px py d =
      let a = count_if_any (λ z. p z && same x z) xs (any_member (λ z. p z && same x z) xs x hx (and_from (p x) (same x x) px r)) in
      let b = count_if_any (λ z. p z && not (same x z)) xs
      (any_member (λ z. p z && not (same x z)) xs y hy (and_from (p y) (not (same x y)) py (not_from_false (same x y) d))) in
      omega (arith, count_by-split p (same x) xs)

  -- if no two elements are related, no element is related to another
  pub no_two : (related : X → X → Bool) → ((x y : X) → related x y ≡ true → related y x ≡ true) → ((x : X) → related x x ≡ false)
      → (xs : List X) → count_pairs related xs ≡ 0 → (x y : X) → Contains xs x → Contains xs y → related x y ≡ true → ⊥
  no_two related turn none [] e x y hx hy r = absurd (omega (arith, hx.1))
  no_two related turn none (z ∷ xs) e x y hx hy r =
      let rest : count_pairs related xs ≡ 0 = omega arith in
      let first : count_by (related z) xs ≡ 0 = omega arith in
      elim (member_cases z xs x hx) [
        | inl ex ↦ elim (member_cases z xs y hy) [
          | inl ey ↦ cc (none x)
          | inr iy ↦ cc (none_passes (related z) xs y first iy)
        ]
        | inr ix ↦ elim (member_cases z xs y hy) [
          | inl ey ↦ cc (none_passes (related z) xs x first ix, turn x y r)
          | inr iy ↦ no_two related turn none xs rest x y ix iy r
        ]
      ]

-- ---- each two

pub each_two-of_map : {X Y : Type 0} (related : Y → Y → Bool) (h : X → Y) (xs : List X) → each_two related (map h xs) ≡ each_two
    (λ a b. related (h a) (h b)) xs
each_two-of_map related h [] = refl
each_two-of_map related h (x ∷ xs) =
    ap (λ b. b && each_two related (map h xs)) (list_all-map (related (h x)) h xs)
    ∙ ap (λ b. list_all (λ y. related (h x) (h y)) xs && b) (each_two-of_map related h xs)

pub each_two-of_append : {X : Type 0} (related : X → X → Bool) (xs ys : List X) → each_two related (xs ++ ys) ≡ true
    → (each_two related xs ≡ true) × (each_two related ys ≡ true)
each_two-of_append related [] ys e = (refl, e)
each_two-of_append related (x ∷ xs) ys e =
    let a = and_parts (list_all (related x) (xs ++ ys)) (each_two related (xs ++ ys)) e in
    let b = and_parts (list_all (related x) xs) (list_all (related x) ys) (sym (list_all-append (related x) xs ys) ∙ a.0) in
    let c = each_two-of_append related xs ys a.1 in
    (and_from (list_all (related x) xs) (each_two related xs) b.0 c.0, c.1)

-- ---- numbers, maps and appended lists

pub each_below_at : (P : ℕ → Type 0) (n k : ℕ) → AllByRecursion P (range_below n) → k < n → P k
each_below_at P n k a h =
    let e : get_or (range_with_len 0 n) k 0 ≡ k = omega (arith, get_or-range_with_len 0 n k 0 h) in
    subst P e (All-from_recursion P (range_below n) a k 0 (rw (length-range_with_len 0 n) h))

pub number_below : (n k : ℕ) → k < n → Contains (range_below n) k
number_below n k h =
    let e : get_or (range_with_len 0 n) k k ≡ k = omega (arith, get_or-range_with_len 0 n k k h) in
    (k, rw (length-range_with_len 0 n) h, e)

pub each_of_map : {X Y : Type 0} (P : Y → Type 0) (h : X → Y) (xs : List X) → AllByRecursion P (map h xs) → AllByRecursion (λ x. P (h x)) xs
each_of_map P h [] a = tt
each_of_map P h (x ∷ xs) a = (a.0, each_of_map P h xs a.1)

pub each_of_append : {X : Type 0} (P : X → Type 0) (xs ys : List X) → AllByRecursion P (xs ++ ys) → AllByRecursion P xs
    × AllByRecursion P ys
each_of_append P [] ys a = (tt, a)
each_of_append P (x ∷ xs) ys a = let b = each_of_append P xs ys a.1 in ((a.0, b.0), b.1)

pub each_of_flat_map : {X Y : Type 0} (P : Y → Type 0) (h : X → List Y) (xs : List X) → AllByRecursion P (flat_map h xs)
    → AllByRecursion (λ x. AllByRecursion P (h x)) xs
each_of_flat_map P h [] a = tt
each_of_flat_map P h (x ∷ xs) a = let b = each_of_append P (h x) (flat_map h xs) a in (b.0, each_of_flat_map P h xs b.1)
