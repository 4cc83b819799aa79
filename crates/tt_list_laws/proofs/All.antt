-- Tests that each element of a list passes.
use Rattle.std.proofs.Common.{◌≡◌, Bool, ◌&&◌, List, [], ◌∷◌, refl, ap, ◌∙◌}
use Rattle.std.specs.Prelude.{flat_map}
use Rattle.std.specs.List.{list_all}
use Rattle.std.proofs.lemmas.List.Folds.{list_all-append}

pub list_all-of_flat_map : {X Y : Type 0} (p : Y → Bool) (h : X → List Y) (xs : List X) → list_all p (flat_map h xs) ≡ list_all
    (λ x. list_all p (h x)) xs
list_all-of_flat_map p h [] = refl
list_all-of_flat_map p h (x ∷ xs) = list_all-append p (h x) (flat_map h xs) ∙ ap (λ b. list_all p (h x) && b) (list_all-of_flat_map p h xs)

pub list_all-same : {X : Type 0} (p q : X → Bool) (xs : List X) → ((x : X) → p x ≡ q x) → list_all p xs ≡ list_all q xs
list_all-same p q [] h = refl
list_all-same p q (x ∷ xs) h = ap (λ b. b && list_all p xs) (h x) ∙ ap (λ b. q x && b) (list_all-same p q xs h)
