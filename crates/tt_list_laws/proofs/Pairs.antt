-- A count of pairs, and one element of the list.
use Rattle.std.proofs.Common.{◌≡◌, ℕ, zero, suc, ◌+◌, ◌<◌, Bool, List, [], ◌∷◌, length, get_or, set, refl, ap, arith, le_of_suc-le-suc}
use Rattle.std.specs.Prelude.{count_by, remove}
use Rattle.std.proofs.lemmas.List.Sums.{sum_by-remove}
use Rattle.tt_list_laws.specs.Words.{count_pairs}
use Rattle.tt_list_laws.proofs.Sums.{one_if, count_by-cons}

-- the pairs are those that have a given element and those without it
pub count_pairs-at : {X : Type 0} (related : X → X → Bool) → ((x y : X) → related x y ≡ related y x) → (xs : List X) (i : ℕ) (d : X)
    → i < length xs → count_pairs related xs ≡ count_by (related (get_or xs i d)) (remove xs i) + count_pairs related (remove xs i)
count_pairs-at related turn [] i d h = absurd (omega arith)
count_pairs-at related turn (x ∷ xs) zero d h = refl
count_pairs-at related turn (x ∷ xs) (suc i) d h =
    let l = le_of_suc-le-suc h in
    let rest = count_pairs-at related turn xs i d l in
    let o = get_or xs i d in
    let a = sum_by-remove (λ z. one_if (related x z)) xs i d l in
    let b = count_by-cons (related o) x (remove xs i) in
    let c = ap one_if (turn o x) in
    omega arith

pub remove-set : {X : Type 0} (xs : List X) (i : ℕ) (y : X) → i < length xs → remove (set xs i y) i ≡ remove xs i
remove-set [] i y h = absurd (omega arith)
remove-set (x ∷ xs) zero y h = refl
remove-set (x ∷ xs) (suc i) y h = ap (λ l. x ∷ l) (remove-set xs i y (le_of_suc-le-suc h))
