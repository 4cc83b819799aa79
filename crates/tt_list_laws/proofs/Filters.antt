-- Filtered lists: tests, counts and sums of the elements that pass, and relations between two of them.
use Rattle.std.proofs.Common.{◌≡◌, ℕ, ◌+◌, Bool, true, false, not, cond, ◌&&◌, ◌||◌, List, [], ◌∷◌, refl, sym, ap, ◌∙◌, arith}
use Rattle.std.specs.Prelude.{Contains, sum_by, count_by, flat_map, filter}
use Rattle.std.specs.List.{list_any, list_all}
use Rattle.std.proofs.lemmas.List.Elements.{All-contains, filter_passes}
use Rattle.std.proofs.lemmas.List.Folds.{list_all-append}
use Rattle.std.proofs.lemmas.List.Sums.{sum_by-cons}
use Rattle.std.proofs.lemmas.Bool.{and_parts, and_from}
use Rattle.tt_list_laws.specs.Words.{each_two}
use Rattle.tt_list_laws.proofs.Sums.{one_if, count_by-cons, sum_by-same}
use Rattle.tt_list_laws.proofs.Twos.{each_two-append}
use Rattle.tt_list_laws.proofs.Tested.{all_weaker}

module _ {X : Type 0} where
  -- some element of a filtered list passes another test
  pub list_any-of_filter : (q p : X → Bool) (xs : List X) → list_any q (filter p xs) ≡ list_any (λ x. p x && q x) xs
  list_any-of_filter q p [] = refl
  list_any-of_filter q p (x ∷ xs) = by_test (p x) (list_any-of_filter q p xs)
    where
      by_test : (b : Bool) → list_any q (filter p xs) ≡ list_any (λ y. p y && q y) xs
          → list_any q (cond b (x ∷ filter p xs) (filter p xs)) ≡ ((b && q x) || list_any (λ y. p y && q y) xs)
      by_test true e = ap (λ r. q x || r) e
      by_test false e = e

  -- each element of a filtered list passes another test
  pub list_all-of_filter : (t p : X → Bool) (xs : List X) → list_all t (filter p xs) ≡ list_all (λ x. not (p x) || t x) xs
  list_all-of_filter t p [] = refl
  list_all-of_filter t p (x ∷ xs) = by_test (p x) (list_all-of_filter t p xs)
    where
      by_test : (b : Bool) → list_all t (filter p xs) ≡ list_all (λ y. not (p y) || t y) xs
          → list_all t (cond b (x ∷ filter p xs) (filter p xs)) ≡ ((not b || t x) && list_all (λ y. not (p y) || t y) xs)
      by_test true e = ap (λ b. t x && b) e
      by_test false e = e

  -- how many elements of a filtered list pass another test
  pub count_by-of_filter : (q p : X → Bool) (xs : List X) → count_by q (filter p xs) ≡ count_by (λ x. p x && q x) xs
  count_by-of_filter q p [] = refl
  count_by-of_filter q p (x ∷ xs) =
      by_test (p x) ∙ ap (λ n. one_if (p x && q x) + n) (count_by-of_filter q p xs) ∙ sym (count_by-cons (λ y. p y && q y) x xs)
    where
      by_test : (b : Bool) → count_by q (cond b (x ∷ filter p xs) (filter p xs)) ≡ one_if (b && q x) + count_by q (filter p xs)
      by_test true = count_by-cons q x (filter p xs)
      by_test false = let none : one_if false ≡ 0 = refl in omega (arith, none)

  -- a sum over the elements of a filtered list
  pub sum_by-of_filter : (f : X → ℕ) (p : X → Bool) (xs : List X) → sum_by f (filter p xs) ≡ sum_by (λ x. cond (p x) (f x) 0) xs
  sum_by-of_filter f p [] = refl
  sum_by-of_filter f p (x ∷ xs) = by_test (p x) (sum_by-of_filter f p xs) ∙ sym (sum_by-cons (λ y. cond (p y) (f y) 0) x xs)
    where
      by_test : (b : Bool) → sum_by f (filter p xs) ≡ sum_by (λ y. cond (p y) (f y) 0) xs
          → sum_by f (cond b (x ∷ filter p xs) (filter p xs)) ≡ cond b (f x) 0 + sum_by (λ y. cond (p y) (f y) 0) xs
      by_test true e = omega (arith, sum_by-cons f x (filter p xs), e)
      by_test false e = omega (arith, e)

  -- an element of a filtered list passes the filter's test
  pub member_passes : (p : X → Bool) (xs : List X) (x : X) → Contains (filter p xs) x → p x ≡ true
  member_passes p xs x h = All-contains (λ y. p y ≡ true) (filter p xs) x (filter_passes p xs) h

  -- if each element passes a test, each element of the filtered list passes it
  pub filter_all_pass : (t p : X → Bool) (xs : List X) → list_all t xs ≡ true → list_all t (filter p xs) ≡ true
  filter_all_pass t p [] e = refl
  filter_all_pass t p (x ∷ xs) e =
      let a = and_parts (t x) (list_all t xs) e in
      by_test (p x) a.0 (filter_all_pass t p xs a.1)
    where
      by_test : (b : Bool) → t x ≡ true → list_all t (filter p xs) ≡ true → list_all t (cond b (x ∷ filter p xs) (filter p xs)) ≡ true
      by_test true h r = and_from (t x) (list_all t (filter p xs)) h r
      by_test false h r = r

  -- if each two elements are related, each two elements of the filtered list are related
  pub each_two-of_filter : (related : X → X → Bool) (p : X → Bool) (xs : List X) → each_two related xs ≡ true
      → each_two related (filter p xs) ≡ true
  each_two-of_filter related p [] e = refl
  each_two-of_filter related p (x ∷ xs) e =
      let a = and_parts (list_all (related x) xs) (each_two related xs) e in
      by_test (p x) (filter_all_pass (related x) p xs a.0) (each_two-of_filter related p xs a.1)
    where
      by_test : (b : Bool) → list_all (related x) (filter p xs) ≡ true → each_two related (filter p xs) ≡ true
          → each_two related (cond b (x ∷ filter p xs) (filter p xs)) ≡ true
      by_test true h r = and_from (list_all (related x) (filter p xs)) (each_two related (filter p xs)) h r
      by_test false h r = r

-- how many distinct places the elements that pass have
pub distinct_filtered : {X Y : Type 0} (p : X → Bool) (at : Y → X → Bool) (xs : List X) (ys : List Y)
    → count_by (λ y. list_any (at y) (filter p xs)) ys ≡ count_by (λ y. list_any (λ x. p x && at y x) xs) ys
distinct_filtered p at xs ys =
    sum_by-same (λ y. one_if (list_any (at y) (filter p xs))) (λ y. one_if (list_any (λ x. p x && at y x) xs)) ys
    (λ y. ap one_if (list_any-of_filter (at y) p xs))

-- -- joined lists, some of them omitted

all_kept : {X Y : Type 0} (t : Y → Bool) (h : X → List Y) (q : X → Bool) (xs : List X) → list_all t (flat_map h xs) ≡ true
    → list_all t (flat_map h (filter q xs)) ≡ true
all_kept t h q [] e = refl
all_kept {X} t h q (x ∷ xs) e =
    let a = and_parts (list_all t (h x)) (list_all t (flat_map h xs)) (sym (list_all-append t (h x) (flat_map h xs)) ∙ e) in
    by_test (q x) a.0 (all_kept t h q xs a.1)
  where
    by_test : (b : Bool) → list_all t (h x) ≡ true → list_all t (flat_map h (filter q xs)) ≡ true
        → list_all t (flat_map h (cond b (x ∷ filter q xs) (filter q xs))) ≡ true
    by_test true f r = list_all-append t (h x) (flat_map h (filter q xs))
        ∙ and_from (list_all t (h x)) (list_all t (flat_map h (filter q xs))) f r
    by_test false f r = r

-- if each two elements of some joined lists are related, they still are if some of the lists are omitted
pub each_two_kept : {X Y : Type 0} (related : Y → Y → Bool) (h : X → List Y) (q : X → Bool) (xs : List X)
    → each_two related (flat_map h xs) ≡ true → each_two related (flat_map h (filter q xs)) ≡ true
each_two_kept related h q [] e = refl
each_two_kept related h q (x ∷ xs) e =
    let whole = flat_map h xs in
    let a = and_parts (each_two related (h x)) (list_all (λ y. list_all (related y) whole) (h x) && each_two related whole)
    (sym (each_two-append related (h x) whole) ∙ e) in
    let b = and_parts (list_all (λ y. list_all (related y) whole) (h x)) (each_two related whole) a.1 in
    let c = all_weaker (λ y. list_all (related y) whole) (λ y. list_all (related y) (flat_map h (filter q xs))) (h x)
    (λ y k. all_kept (related y) h q xs k) b.0 in
    by_test (q x) a.0 c (each_two_kept related h q xs b.1)
  where
    by_test : (b : Bool) → each_two related (h x) ≡ true → list_all (λ y. list_all (related y) (flat_map h (filter q xs))) (h x) ≡ true
        → each_two related (flat_map h (filter q xs)) ≡ true → each_two related (flat_map h (cond b (x ∷ filter q xs) (filter q xs))) ≡ true
    by_test true f c r =
        each_two-append related (h x) (flat_map h (filter q xs))
        ∙ and_from (each_two related (h x)) (list_all (λ y. list_all (related y) (flat_map h (filter q xs))) (h x) && each_two related
        (flat_map h (filter q xs))) f
        (and_from (list_all (λ y. list_all (related y) (flat_map h (filter q xs))) (h x)) (each_two related (flat_map h (filter q xs))) c r)
    by_test false f c r = r
