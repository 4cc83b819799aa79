-- The least number of a list: when the list grows at its end, and its bounds.
use Rattle.std.proofs.Common.{◌≡◌, ℕ, ◌+◌, ◌≤◌, Bool, true, false, cond, ◌||◌, List, [], ◌∷◌, ◌++◌, min, map, Option, Some, None, refl, ap, ◌∙◌, arith, inl, inr}
use Rattle.std.specs.Prelude.{Contains, filter, is_some}
use Rattle.std.specs.List.{list_any, AllByRecursion}
use Rattle.std.proofs.lemmas.List.{append-nil, map-append}
use Rattle.std.proofs.lemmas.List.Elements.{filter-append}
use Rattle.tt_list_laws.specs.Words.{range_below}
use Rattle.tt_list_laws.proofs.Below.{range_below_more}
use Rattle.tt_list_laws.proofs.Members.{member_cases}
use Rattle.tt_path.specs.Live.{least, least_with}

least_with-turn : (m n : ℕ) (o : Option ℕ) → min n (least_with m o) ≡ min m (least_with n o)
least_with-turn m n None = omega arith
least_with-turn m n (Some k) = omega arith

pub least_push : (ns : List ℕ) (n : ℕ) → least (ns ++ n ∷ []) ≡ Some (least_with n (least ns))
least_push [] n = refl
least_push (m ∷ ns) n = ap (λ o. Some (least_with m o)) (least_push ns n) ∙ ap Some (least_with-turn n m (least ns))

-- the least value of the numbers that pass, after another number is added
pub least_more : (f : ℕ → ℕ) (p : ℕ → Bool) (i : ℕ) → least (map f (filter p (range_below (i + 1)))) ≡ cond (p i)
    (Some (least_with (f i) (least (map f (filter p (range_below i)))))) (least (map f (filter p (range_below i))))
least_more f p i =
    ap (λ l. least (map f (filter p l))) (range_below_more i) ∙ ap (λ l. least (map f l)) (filter-append p (range_below i) (i ∷ []))
    ∙ by_test (p i)
  where
    before : List ℕ
    before = filter p (range_below i)

    by_test : (b : Bool) → least (map f (before ++ cond b (i ∷ []) [])) ≡ cond b (Some (least_with (f i) (least (map f before))))
        (least (map f before))
    by_test true = ap least (map-append f before (i ∷ [])) ∙ least_push (map f before) (f i)
    by_test false = ap (λ l. least (map f l)) (append-nil before)

-- -- the properties of the least number

-- the least of a number and another is at most the number
pub least_with-le : (n : ℕ) (o : Option ℕ) → least_with n o ≤ n
least_with-le n None = omega arith
least_with-le n (Some m) = omega arith

-- a least value exists if some number passes
pub is_some-least : (f : ℕ → ℕ) (q : ℕ → Bool) (xs : List ℕ) → is_some (least (map f (filter q xs))) ≡ list_any q xs
is_some-least f q [] = refl
is_some-least f q (x ∷ xs) = by_test (q x) (is_some-least f q xs)
  where
    by_test : (b : Bool) → is_some (least (map f (filter q xs))) ≡ list_any q xs
        → is_some (least (map f (cond b (x ∷ filter q xs) (filter q xs)))) ≡ (b || list_any q xs)
    by_test true e = refl
    by_test false e = e

-- a lower bound of the numbers is a lower bound of the least
pub least_over : (v : ℕ) (f : ℕ → ℕ) (q : ℕ → Bool) (xs : List ℕ) → AllByRecursion (λ x. q x ≡ true → v ≤ f x) xs → (m : ℕ)
    → least (map f (filter q xs)) ≡ Some m → v ≤ m
least_over v f q [] a m e = cc
least_over v f q (x ∷ xs) a m e = by_test (q x) refl e (least_over v f q xs a.1)
  where
    with_rest : (o : Option ℕ) → least (map f (filter q xs)) ≡ o → Some (least_with (f x) o) ≡ Some m → v ≤ f x
        → ((k : ℕ) → least (map f (filter q xs)) ≡ Some k → v ≤ k) → v ≤ m
    with_rest None h k l rest = let same : f x ≡ m = cc in omega arith
    with_rest (Some n) h k l rest = let same : min (f x) n ≡ m = cc in omega (arith, rest n h)

    by_test : (b : Bool) → q x ≡ b → least (map f (cond b (x ∷ filter q xs) (filter q xs))) ≡ Some m
        → ((k : ℕ) → least (map f (filter q xs)) ≡ Some k → v ≤ k) → v ≤ m
    by_test true h k rest = with_rest (least (map f (filter q xs))) refl k (a.0 h) rest
    by_test false h k rest = rest m k

-- the least of some numbers is one of them, so it is at most their bound
pub least_short : (n : ℕ) (f : ℕ → ℕ) (q : ℕ → Bool) (xs : List ℕ) → ((x : ℕ) → f x ≤ n) → (m : ℕ)
    → least (map f (filter q xs)) ≡ Some m → m ≤ n
least_short n f q [] h m e = cc
least_short n f q (x ∷ xs) h m e = by_test (q x) e (least_short n f q xs h)
  where
    first : (o : Option ℕ) → Some (least_with (f x) o) ≡ Some m → m ≤ n
    first None k = let same : f x ≡ m = cc in omega (arith, h x)
    first (Some i) k = let same : min (f x) i ≡ m = cc in omega (arith, h x)

    by_test : (b : Bool) → least (map f (cond b (x ∷ filter q xs) (filter q xs))) ≡ Some m
        → ((k : ℕ) → least (map f (filter q xs)) ≡ Some k → k ≤ n) → m ≤ n
    by_test true k rest = first (least (map f (filter q xs))) k
    by_test false k rest = rest m k

-- no number of a list is below the least
pub least-le : (ns : List ℕ) (v w : ℕ) → least ns ≡ Some v → Contains ns w → v ≤ w
least-le [] v w e m = absurd (omega (arith, m.1))
least-le (n ∷ ns) v w e m = by_rest (least ns) refl e (λ u k h. least-le ns u w k h)
  where
    by_rest : (o : Option ℕ) → least ns ≡ o → Some (least_with n o) ≡ Some v → ((u : ℕ) → least ns ≡ Some u → Contains ns w → u ≤ w) → v ≤ w
    by_rest None k h rest =
        let same : n ≡ v = cc in
        elim (member_cases n ns w m) [
          | inl i ↦ omega arith
          | inr i ↦ absurd (some_least ns w i k)
        ]
      where
        some_least : (ms : List ℕ) (z : ℕ) → Contains ms z → least ms ≡ None → ⊥
        some_least [] z i j = omega (arith, i.1)
        some_least (x ∷ xs) z i j = cc
    by_rest (Some u) k h rest =
        let same : min n u ≡ v = cc in
        elim (member_cases n ns w m) [
          | inl i ↦ omega arith
          | inr i ↦ omega (arith, rest u k i)
        ]
