-- Sums over elements that differ.
use Rattle.std.proofs.Common.{◌≡◌, ℕ, ◌≤◌, Bool, true, false, not, cond, ◌||◌, List, [], ◌∷◌, refl, sym, ap, ◌∙◌, subst, arith, inl, inr, zero-le, mul-le-mul_right}
use Rattle.std.specs.Prelude.{Contains, ◌⊎◌, sum_by, count_by}
use Rattle.std.specs.List.{list_any, list_all}
use Rattle.std.proofs.lemmas.List.Sums.{sum_by-cons}
use Rattle.std.proofs.lemmas.Bool.{and_parts, or_left, or_right, not-true, both_ways, cases_lt, cond-true}
use Rattle.tt_list_laws.specs.Words.{each_two}
use Rattle.tt_list_laws.proofs.Sums.{sum_by-nothing, one_if, one_if_true, one_if-le, cond-le, sum_by-le, each, each_weaker, spread_up, sum_by-at_places, each_from_list_all}
use Rattle.tt_list_laws.proofs.Members.{each_member, member_from_any, member-le}

-- a test that counts 1 or more passes
pub one_if-positive : (b : Bool) → 1 ≤ one_if b → b ≡ true
one_if-positive true h = refl
one_if-positive false h = absurd (omega arith)

-- if no two related elements both count, the sum is at most 1, and 0 unless some element passes
pub one_at_most : {X : Type 0} (related : X → X → Bool) (n : X → ℕ) (passes : X → Bool) (xs : List X) → each_two related xs ≡ true
    → ((x y : X) → related x y ≡ true → 1 ≤ n x → 1 ≤ n y → ⊥) → ((x : X) → n x ≤ 1) → ((x : X) → 1 ≤ n x → passes x ≡ true)
    → sum_by n xs ≤ one_if (list_any passes xs)
one_at_most related n passes [] e apart most pass = zero-le
one_at_most related n passes (x ∷ xs) e apart most pass =
    let h = and_parts (list_all (related x) xs) (each_two related xs) e in
    let c = sum_by-cons n x xs in
    elim (cases_lt 0 (n x)) [
      | inl k ↦
          let here = one_if_true (passes x || list_any passes xs) (or_left (passes x) (list_any passes xs) (pass x k)) in
          let others = sum_by-le n (λ y. 0) xs
          (each_weaker (λ y. related x y ≡ true) (λ y. n y ≤ 0) (λ y r. by_cases y (λ m. apart x y r k m)) xs
          (each_from_list_all (related x) xs h.0)) in
          omega (arith, most x, sum_by-nothing xs)
      | inr k ↦
          let rest = one_at_most related n passes xs h.1 apart most pass in
          let wider = cond-le (list_any passes xs) (passes x || list_any passes xs) (or_right (passes x) (list_any passes xs)) in
          omega arith
    ]
  where
    by_cases : (y : _) → (1 ≤ n y → ⊥) → n y ≤ 0
    by_cases y f = elim (cases_lt 0 (n y)) [ inl m ↦ absurd (f m) | inr m ↦ m ]

-- a sum over distinct elements is at most the sum over a list that contains each of them, except those that add nothing
pub distinct_sum : {X : Type 0} (same : X → X → Bool) → ((x y : X) → same x y ≡ true → x ≡ y) → ((x : X) → same x x ≡ true)
    → (f : X → ℕ) (ys xs : List X) → each_two (λ a b. not (same a b)) ys ≡ true
    → ((y : X) → Contains ys y → (f y ≡ 0) ⊎ (list_any (same y) xs ≡ true)) → sum_by f ys ≤ sum_by f xs
distinct_sum {X} same is itself f ys xs apart there =
    let up = spread_up f (λ x y. cond (same y x) (f x) 0) ys xs
    (each_member (λ y. f y ≤ sum_by (λ x. cond (same y x) (f x) 0) xs) ys found) in
    let down = sum_by-le (λ x. sum_by (λ y. cond (same y x) (f x) 0) ys) f xs
    (each (λ x. sum_by (λ y. cond (same y x) (f x) 0) ys ≤ f x) once xs) in
    omega arith
  where
    found : (y : X) → Contains ys y → f y ≤ sum_by (λ x. cond (same y x) (f x) 0) xs
    found y m = elim (there y m) [
      | inl e ↦ omega arith
      | inr a ↦
          let w = member_from_any (same y) xs a in
          let e = cond-true (same y w.0) (f w.0) 0 w.2 in
          let k = ap f (is y w.0 w.2) in
          omega (arith, member-le (λ x. cond (same y x) (f x) 0) xs w.0 w.1)
    ]

    never : (x a b : X) → not (same a b) ≡ true → 1 ≤ one_if (same a x) → 1 ≤ one_if (same b x) → ⊥
    never x a b d ha hb =
        let ea = is a x (one_if-positive (same a x) ha) in
        let eb = is b x (one_if-positive (same b x) hb) in
        both_ways (same a b) (not-true (same a b) d) (subst (λ z. same a z ≡ true) (ea ∙ sym eb) (itself a))

    once : (x : X) → sum_by (λ y. cond (same y x) (f x) 0) ys ≤ f x
    once x =
        let e = sum_by-at_places (λ y. same y x) (f x) ys in
        let one = one_at_most (λ a b. not (same a b)) (λ y. one_if (same y x)) (λ y. true) ys apart (never x)
        (λ y. one_if-le (same y x)) (λ y h. refl) in
        let most = one_if-le (list_any (λ (y : X). true) ys) in
        let two : count_by (λ y. same y x) ys ≤ 1 = omega arith in
        let k = mul-le-mul_right (f x) two in
        omega arith
