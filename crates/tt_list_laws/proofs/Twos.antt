-- Tests of each two elements, and tests of the elements of two lists.
use Rattle.std.proofs.Common.{◌≡◌, Bool, true, false, not, ◌&&◌, ◌||◌, List, [], ◌∷◌, ◌++◌, refl, sym, ap, ◌∙◌}
use Rattle.std.specs.Prelude.{flat_map}
use Rattle.std.specs.List.{list_any, list_all}
use Rattle.std.proofs.lemmas.List.Folds.{list_all-append}
use Rattle.std.proofs.lemmas.Bool.{and_parts, and_from}
use Rattle.tt_list_laws.specs.Words.{each_two}
use Rattle.tt_list_laws.proofs.All.{list_all-of_flat_map, list_all-same}
use Rattle.tt_list_laws.proofs.Below.{all_pass}

pub neither : (a b : Bool) → not (a || b) ≡ (not a && not b)
neither true b = refl
neither false b = refl

-- no element passes
pub list_all-not : {X : Type 0} (p : X → Bool) (xs : List X) → list_all (λ x. not (p x)) xs ≡ not (list_any p xs)
list_all-not p [] = refl
list_all-not p (x ∷ xs) = ap (λ b. not (p x) && b) (list_all-not p xs) ∙ sym (neither (p x) (list_any p xs))

-- each element passes two tests
pub list_all-both : {X : Type 0} (p q : X → Bool) (xs : List X) → list_all (λ x. p x && q x) xs ≡ (list_all p xs && list_all q xs)
list_all-both p q [] = refl
list_all-both p q (x ∷ xs) = ap (λ b. p x && q x && b) (list_all-both p q xs) ∙ turned (p x) (q x) (list_all p xs) (list_all q xs)
  where
    turned : (a b c d : Bool) → (a && b && (c && d)) ≡ ((a && c) && (b && d))
    turned true true c d = refl
    turned true false true d = refl
    turned true false false d = refl
    turned false b c d = refl

-- a test of each pair of elements of two lists is the same in the other order
pub list_all-swap : {X Y : Type 0} (t : X → Y → Bool) (xs : List X) (ys : List Y) → list_all (λ x. list_all (t x) ys) xs ≡ list_all
    (λ y. list_all (λ x. t x y) xs) ys
list_all-swap t [] ys = sym (all_pass (λ y. true) ys (λ y. refl))
list_all-swap t (x ∷ xs) ys =
    ap (λ b. list_all (t x) ys && b) (list_all-swap t xs ys) ∙ sym (list_all-both (t x) (λ y. list_all (λ z. t z y) xs) ys)

pub each_two-append : {X : Type 0} (related : X → X → Bool) (xs ys : List X)
    → each_two related (xs ++ ys) ≡ (each_two related xs && (list_all (λ x. list_all (related x) ys) xs && each_two related ys))
each_two-append related [] ys = refl
each_two-append related (x ∷ xs) ys =
    ap (λ b. b && each_two related (xs ++ ys)) (list_all-append (related x) xs ys)
    ∙ ap (λ b. (list_all (related x) xs && list_all (related x) ys) && b) (each_two-append related xs ys)
    ∙ turned (list_all (related x) xs) (list_all (related x) ys) (each_two related xs) (list_all (λ z. list_all (related z) ys) xs)
    (each_two related ys)
  where
    turned : (a b c d e : Bool) → ((a && b) && (c && (d && e))) ≡ ((a && c) && ((b && d) && e))
    turned true true true d e = refl
    turned true true false d e = refl
    turned true false true d e = refl
    turned true false false d e = refl
    turned false b c d e = refl

-- if each two elements of the first list are related: all joined lists' elements are, exactly if the first list's elements are related
-- to those of each other list, and each two elements of the other lists are
pub each_two-of_flat_map : {X Y : Type 0} (related : Y → Y → Bool) (h : X → List Y) (x : X) (xs : List X)
    → each_two related (h x) ≡ true → each_two related (flat_map h (x ∷ xs)) ≡
    (list_all (λ z. list_all (λ a. list_all (related a) (h z)) (h x)) xs && each_two related (flat_map h xs))
each_two-of_flat_map related h x xs once =
    each_two-append related (h x) (flat_map h xs)
    ∙ ap (λ b. b && (list_all (λ a. list_all (related a) (flat_map h xs)) (h x) && each_two related (flat_map h xs))) once
    ∙ ap (λ b. b && each_two related (flat_map h xs))
    (list_all-same (λ a. list_all (related a) (flat_map h xs)) (λ a. list_all (λ z. list_all (related a) (h z)) xs) (h x)
    (λ a. list_all-of_flat_map (related a) h xs)
    ∙ list_all-swap (λ a z. list_all (related a) (h z)) (h x) xs)

-- two tests that agree on each two elements give the same answer for the list
pub each_two-same : {X : Type 0} (p q : X → X → Bool) (xs : List X) → ((a b : X) → p a b ≡ q a b) → each_two p xs ≡ each_two q xs
each_two-same p q [] h = refl
each_two-same p q (x ∷ xs) h = ap (λ b. b && each_two p xs) (list_all-same (p x) (q x) xs (h x)) ∙ ap (λ b. list_all (q x) xs && b)
    (each_two-same p q xs h)

-- -- one element appended

-- if each two elements are related, and each is related to a new last one, each two are related with it
pub each_two-push : {X : Type 0} (related : X → X → Bool) (xs : List X) (x : X) → each_two related xs ≡ true
    → list_all (λ z. related z x) xs ≡ true → each_two related (xs ++ x ∷ []) ≡ true
each_two-push related [] x a b = refl
each_two-push related (z ∷ zs) x a b =
    let h = and_parts (list_all (related z) zs) (each_two related zs) a in
    let k = and_parts (related z x) (list_all (λ y. related y x) zs) b in
    and_from (list_all (related z) (zs ++ x ∷ [])) (each_two related (zs ++ x ∷ []))
    (list_all-append (related z) zs (x ∷ []) ∙ and_from (list_all (related z) zs) (related z x && true) h.0
    (and_from (related z x) true k.0 refl))
    (each_two-push related zs x h.1 k.1)

-- if each two elements are related, each is related to the last
pub each_two-last : {X : Type 0} (related : X → X → Bool) (xs : List X) (x : X) → each_two related (xs ++ x ∷ []) ≡ true
    → list_all (λ z. related z x) xs ≡ true
each_two-last related [] x e = refl
each_two-last related (z ∷ zs) x e =
    let h = and_parts (list_all (related z) (zs ++ x ∷ [])) (each_two related (zs ++ x ∷ [])) e in
    let k = and_parts (list_all (related z) zs) (related z x && true) (sym (list_all-append (related z) zs (x ∷ [])) ∙ h.0) in
    and_from (related z x) (list_all (λ y. related y x) zs) (and_parts (related z x) true k.1).0 (each_two-last related zs x h.1)
