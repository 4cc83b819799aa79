-- Lists of numbers, one number at a time.
use Rattle.std.proofs.Common.{◌≡◌, ℕ, ◌+◌, ◌<◌, Bool, true, not, ◌&&◌, List, [], ◌∷◌, ◌++◌, refl, ◌∙◌, arith, ne_eqb}
use Rattle.std.specs.Prelude.{◌==◌}
use Rattle.std.specs.List.{list_all, AllByRecursion}
use Rattle.std.proofs.lemmas.Bool.{and_parts, and_from, not_from_false}
use Rattle.std.proofs.lemmas.List.Elements.{All-push, recursion_from_All}
use Rattle.std.proofs.lemmas.List.Folds.{list_all-append}
use Rattle.tt_list_laws.specs.Words.{each_two}
use Rattle.tt_shortage.specs.Numbers.{AreNumbers}

module _ {X : Type 0} (number : X → ℕ) where
  abbrev differ : X → X → Bool
  differ a b = not (number a == number b)

  pub once_more : (xs : List X) (x : X) → AllByRecursion (λ k. number k < number x) xs → each_two differ xs ≡ true
      → each_two differ (xs ++ x ∷ []) ≡ true
  once_more [] x a e = refl
  once_more (k ∷ xs) x a e =
      let h = and_parts (list_all (differ k) xs) (each_two differ xs) e in
      let apart = not_from_false (number k == number x) (ne_eqb (number k) (number x) (λ q. let l = a.0 in omega arith)) in
      and_from (list_all (differ k) (xs ++ x ∷ [])) (each_two differ (xs ++ x ∷ []))
      (list_all-append (differ k) xs (x ∷ []) ∙ and_from (list_all (differ k) xs) (differ k x && true) h.0
      (and_from (differ k x) true apart refl))
      (once_more xs x a.1 h.1)

-- a list without the next number
pub numbers_same : (ns : List ℕ) (i : ℕ) → AreNumbers i ns → AreNumbers (i + 1) ns
numbers_same ns i a = record { within = λ n d h. omega (arith, a.within n d h); once = a.once }

-- a list with the next number
pub numbers_more : (ns : List ℕ) (i : ℕ) → AreNumbers i ns → AreNumbers (i + 1) (ns ++ i ∷ [])
numbers_more ns i a = record {
  within = All-push (λ n. n < i + 1) ns i (λ n d h. omega (arith, a.within n d h)) (omega arith);
  once = once_more (λ n. n) ns i (recursion_from_All (λ n. n < i) ns a.within) a.once;
}
