-- The first element that passes a test, and the greatest of some numbers.
use Rattle.std.proofs.Common.{◌≡◌, ℕ, suc, ◌≤◌, Bool, true, false, cond, ◌||◌, List, [], ◌∷◌, Option, Some, None, refl, ap, ◌∙◌, subst, arith, inl, inr}
use Rattle.std.specs.Prelude.{Contains}
use Rattle.std.specs.List.{list_any, find, AllByRecursion}
use Rattle.std.proofs.lemmas.Bool.{both_ways, cases_lt}
use Rattle.tt_list_laws.proofs.Sums.{each_weaker}
use Rattle.tt_list_laws.proofs.Members.{any_member}

module _ {X : Type 0} where
  -- the element found passes the test
  pub find_passes : (q : X → Bool) (xs : List X) (x : X) → find q xs ≡ Some x → q x ≡ true
  find_passes q [] x e = cc
  find_passes q (y ∷ ys) x e = by_test (q y) refl e (find_passes q ys x)
    where
      by_test : (b : Bool) → q y ≡ b → cond b (Some y) (find q ys) ≡ Some x → (find q ys ≡ Some x → q x ≡ true) → q x ≡ true
      by_test true h k rest = let same : y ≡ x = cc in subst (λ z. q z ≡ true) same h
      by_test false h k rest = rest k

  -- if nothing is found, no element passes
  pub find_none : (q : X → Bool) (xs : List X) → find q xs ≡ None → list_any q xs ≡ false
  find_none q [] e = refl
  find_none q (y ∷ ys) e = by_test (q y) e (find_none q ys)
    where
      by_test : (b : Bool) → cond b (Some y) (find q ys) ≡ None → (find q ys ≡ None → list_any q ys ≡ false) → (b || list_any q ys) ≡ false
      by_test true k rest = cc
      by_test false k rest = rest k

  -- the element found is in the list
  pub find_member : (q : X → Bool) (xs : List X) (x : X) → find q xs ≡ Some x → Contains xs x
  find_member q [] x e = cc
  find_member q (y ∷ ys) x e = by_test (q y) e (find_member q ys x)
    where
      by_test : (b : Bool) → cond b (Some y) (find q ys) ≡ Some x → (find q ys ≡ Some x → Contains ys x) → Contains (y ∷ ys) x
      by_test true k rest = let same : y ≡ x = cc in (0, omega arith, same)
      by_test false k rest = let m = rest k in (suc m.0, omega (arith, m.1), m.2)

  -- if only one element passes, it is the one found
  pub find_only : (q : X → Bool) (xs : List X) (u : X) → Contains xs u → q u ≡ true → ((v : X) → q v ≡ true → v ≡ u) → find q xs ≡ Some u
  find_only q xs u m e only = by_found (find q xs) refl
    where
      by_found : (o : Option X) → find q xs ≡ o → find q xs ≡ Some u
      by_found None h = absurd (both_ways (list_any q xs) (find_none q xs h) (any_member q xs u m e))
      by_found (Some v) h = h ∙ ap Some (only v (find_passes q xs v h))

  -- if no element passes, nothing is found
  pub find_never : (q : X → Bool) (xs : List X) → ((v : X) → q v ≡ true → ⊥) → find q xs ≡ None
  find_never q xs never = by_found (find q xs) refl
    where
      by_found : (o : Option X) → find q xs ≡ o → find q xs ≡ None
      by_found None h = h
      by_found (Some v) h = absurd (never v (find_passes q xs v h))

-- some number is the greatest
pub greatest : (x : ℕ) (xs : List ℕ) → (u : ℕ) × Contains (x ∷ xs) u × AllByRecursion (λ m. m ≤ u) (x ∷ xs)
greatest x [] = (x, (0, omega arith, refl), (omega arith, tt))
greatest x (y ∷ ys) =
    let w = greatest y ys in
    elim (cases_lt w.0 x) [
      | inl h ↦ (x, (0, omega arith, refl), (omega arith, each_weaker (λ m. m ≤ w.0) (λ m. m ≤ x) (λ m k. omega arith) (y ∷ ys) w.2))
      | inr h ↦ (w.0, (suc w.1.0, omega (arith, w.1.1), w.1.2), (h, w.2))
    ]
