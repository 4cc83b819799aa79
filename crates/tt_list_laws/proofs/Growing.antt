-- Lists that grow step by step: mapped, joined, filtered and appended.
use Rattle.std.proofs.Common.{◌≡◌, ℕ, ◌+◌, Bool, List, [], ◌∷◌, ◌++◌, map, refl, sym, ap, ◌∙◌, append_assoc}
use Rattle.std.specs.Prelude.{flat_map, filter}
use Rattle.std.proofs.lemmas.List.{map-append, append-nil}
use Rattle.std.proofs.lemmas.List.Elements.{filter-append}
use Rattle.std.proofs.lemmas.Grind.{flat_map-append}
use Rattle.tt_list_laws.specs.Words.{range_below}
use Rattle.tt_list_laws.proofs.Below.{range_below_more}

-- filtering the elements of one number further
pub kept_more : {X : Type 0} (q : X → Bool) (h : ℕ → List X) (i : ℕ) → filter q (flat_map h (range_below (i + 1))) ≡ filter q
    (flat_map h (range_below i)) ++ filter q (h i)
kept_more q h i =
    ap (λ l. filter q (flat_map h l)) (range_below_more i) ∙ ap (filter q) (flat_map-append h (range_below i) (i ∷ []))
    ∙ filter-append q (flat_map h (range_below i)) (h i ++ []) ∙ ap (λ l. filter q (flat_map h (range_below i)) ++ filter q l)
    (append-nil (h i))

-- filtering the element of one number further
pub kept_one_more : {X : Type 0} (q : X → Bool) (f : ℕ → X) (i : ℕ) → filter q (map f (range_below (i + 1))) ≡ filter q
    (map f (range_below i)) ++ filter q (f i ∷ [])
kept_one_more q f i =
    ap (λ l. filter q (map f l)) (range_below_more i) ∙ ap (filter q) (map-append f (range_below i) (i ∷ []))
    ∙ filter-append q (map f (range_below i)) (f i ∷ [])

-- mapping joined lists is joining mapped lists
pub map-of_flat_map : {X Y Z : Type 0} (f : Y → Z) (h : X → List Y) (xs : List X) → map f (flat_map h xs) ≡ flat_map (λ x. map f (h x)) xs
map-of_flat_map f h [] = refl
map-of_flat_map f h (x ∷ xs) = map-append f (h x) (flat_map h xs) ∙ ap (λ l. map f (h x) ++ l) (map-of_flat_map f h xs)

-- the elements that a step adds come after those that earlier steps added
pub pushed_more : {X : Type 0} (old some one : List X) {new mid more : List X} → new ≡ mid ++ one → mid ≡ old ++ some
    → more ≡ some ++ one → new ≡ old ++ more
pushed_more old some one a b c = a ∙ ap (λ l. l ++ one) b ∙ append_assoc old some one ∙ ap (λ l. old ++ l) (sym c)
