-- Properties of each element of a list, given the elements before it.
use Rattle.std.proofs.Common.{ℕ, zero, suc, ◌<◌, List, [], ◌∷◌, ◌++◌, length, get_or, take, sym, subst, append_assoc, arith, le_of_suc-le-suc}
use Rattle.std.specs.Prelude.{All}
use Rattle.std.proofs.lemmas.List.{append-nil}
use Rattle.std.proofs.lemmas.List.Elements.{All-nil, All-cons, All-head, All-tail}

-- each element satisfies the property, given the elements before it
abbrev pub EachAfter : {X : Type 0} → (List X → X → Type 0) → List X → List X → Type 0
EachAfter P before [] = Unit {0}
EachAfter P before (x ∷ xs) = P before x × EachAfter P (before ++ x ∷ []) xs

-- at one place
pub EachAfter-at : {X : Type 0} (P : List X → X → Type 0) (before xs : List X) (i : ℕ) (d : X) → EachAfter P before xs → i < length xs
    → P (before ++ take i xs) (get_or xs i d)
EachAfter-at P before [] i d h l = absurd (omega arith)
EachAfter-at P before (x ∷ xs) zero d h l = subst (λ b. P b x) (sym (append-nil before)) h.0
EachAfter-at P before (x ∷ xs) (suc i) d h l =
    subst (λ b. P b (get_or xs i d)) (append_assoc before (x ∷ []) (take i xs))
    (EachAfter-at P (before ++ x ∷ []) xs i d h.1 (le_of_suc-le-suc l))

-- from each place
pub EachAfter-from_at : {X : Type 0} (P : List X → X → Type 0) (before xs : List X)
    → ((i : ℕ) (d : X) → i < length xs → P (before ++ take i xs) (get_or xs i d)) → EachAfter P before xs
EachAfter-from_at P before [] h = tt
EachAfter-from_at P before (x ∷ xs) h = (
  subst (λ b. P b x) (append-nil before) (h 0 x (omega arith)),
  EachAfter-from_at P (before ++ x ∷ []) xs (λ i d l. subst (λ b. P b (get_or xs i d)) (sym (append_assoc before (x ∷ []) (take i xs)))
      (h (suc i) d (omega (arith, l)))),
)

-- a weaker property that doesn't depend on the elements before
pub All-from_each_after : {X : Type 0} (P : List X → X → Type 0) (Q : X → Type 0) → ((before : List X) (x : X) → P before x → Q x)
    → (before xs : List X) → EachAfter P before xs → All Q xs
All-from_each_after P Q weaker before [] h = All-nil Q
All-from_each_after P Q weaker before (x ∷ xs) h = All-cons Q x xs (weaker before x h.0)
    (All-from_each_after P Q weaker (before ++ x ∷ []) xs h.1)

-- a property of each element, regardless of the elements before it
pub EachAfter-from_all : {X : Type 0} (Q : X → Type 0) (before xs : List X) → All Q xs → EachAfter (λ _ x. Q x) before xs
EachAfter-from_all Q before [] h = tt
EachAfter-from_all Q before (x ∷ xs) h = (All-head Q x xs h, EachAfter-from_all Q (before ++ x ∷ []) xs (All-tail Q x xs h))
