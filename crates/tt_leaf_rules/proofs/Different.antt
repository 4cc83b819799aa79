-- Elements that differ by a test, if the test finds whether two are the same.
use Rattle.std.proofs.Common.{◌≡◌, Bool, true, not, List, [], ◌∷◌, zero, suc, refl, subst, arith}
use Rattle.std.specs.Prelude.{All, AllPairs}
use Rattle.std.specs.List.{list_all}
use Rattle.std.proofs.lemmas.Bool.{and_parts, and_from, not-true, both_ways, not_from_false, false_from_ne_true}
use Rattle.std.proofs.lemmas.List.Kept.{AllPairs-cons}
use Rattle.std.proofs.lemmas.List.Sums.{AllPass-from_list_all, list_all-from_AllPass}
use Rattle.tt_list_laws.specs.Words.{each_two}

-- each two are different
abbrev pub AreDifferent : {X : Type 0} → List X → Type 0
AreDifferent xs = AllPairs (λ a b. ¬ (a ≡ b)) xs

module _ {X : Type 0} (same : X → X → Bool) (is : (x y : X) → same x y ≡ true → x ≡ y) (itself : (x : X) → same x x ≡ true) where
  differ : (x y : X) → not (same x y) ≡ true → ¬ (x ≡ y)
  differ x y d e = both_ways (same x y) (not-true (same x y) d) (subst (λ z. same x z ≡ true) e (itself x))

  found_different : (x y : X) → ¬ (x ≡ y) → not (same x y) ≡ true
  found_different x y d = not_from_false (same x y) (false_from_ne_true (same x y) (λ e. d (is x y e)))

  -- if the test says of each two that they differ, they differ
  pub different : (xs : List X) → each_two (λ a b. not (same a b)) xs ≡ true → AreDifferent xs
  different [] e = λ i j d before within. absurd (omega (arith, within))
  different (x ∷ xs) e =
      let h = and_parts (list_all (λ y. not (same x y)) xs) (each_two (λ a b. not (same a b)) xs) e in
      let first : All (λ y. ¬ (x ≡ y)) xs = λ k d within. differ x _ (AllPass-from_list_all (λ y. not (same x y)) xs h.0 k d within) in
      AllPairs-cons (λ a b. ¬ (a ≡ b)) x xs first (different xs h.1)

  -- if each two differ, the test says so
  pub each_two_differ : (xs : List X) → AreDifferent xs → each_two (λ a b. not (same a b)) xs ≡ true
  each_two_differ [] h = refl
  each_two_differ (x ∷ xs) h =
      and_from (list_all (λ y. not (same x y)) xs) (each_two (λ a b. not (same a b)) xs)
      (list_all-from_AllPass (λ y. not (same x y)) xs
      (λ k d within. found_different x _ (h zero (suc k) d (omega arith) (omega (arith, within)))))
      (each_two_differ xs (λ i j d before within. h (suc i) (suc j) d (omega (arith, before)) (omega (arith, within))))
