-- The first elements of a list, one element at a time, and repeated elements.
use Rattle.std.proofs.Common.{◌≡◌, ℕ, ◌+◌, ◌<◌, ◌≤◌, List, ◌++◌, length, take, get_or, replicate, sym, subst, inl, inr, ◌∙◌, arith}
use Rattle.std.specs.Prelude.{All}
use Rattle.std.proofs.lemmas.Bool.{cases_lt}
use Rattle.std.proofs.lemmas.List.{take_more, take_all, take-append-le, get_or-replicate, get_or_past, length-replicate}
use Rattle.std.proofs.lemmas.List.Elements.{All-push}

-- a property holds for the elements so far and another one
pub All_more : {X : Type 0} (P : X → Type 0) (xs : List X) (i : ℕ) (d x : X) → i < length xs → x ≡ get_or xs i d → All P (take i xs) → P x
    → All P (take (i + 1) xs)
All_more {X} P xs i d x below is so_far here =
    subst (All P) (sym (take_more xs i d below)) (All-push P (take i xs) (get_or xs i d) so_far (subst P is here))

-- at the end, the property holds for all elements
pub All_done : {X : Type 0} (P : X → Type 0) (xs : List X) (i : ℕ) → length xs ≤ i → All P (take i xs) → All P xs
All_done P xs i le so_far = subst (All P) (take_all i xs le) so_far

-- the first elements are those written over the whole list
pub take_written : (xs rest : List ℕ) (n : ℕ) → n ≡ length xs → take n (xs ++ rest) ≡ xs
take_written xs rest n e =
    let short : n ≤ length xs = omega arith in
    take-append-le n xs rest short ∙ take_all n xs (omega arith)

-- in a list that repeats one element, each place has it, if it is the default, too
pub read_default : {X : Type 0} (n k : ℕ) (x : X) → get_or (replicate n x) k x ≡ x
read_default n k x = elim (cases_lt k n) [
  | inl h ↦ get_or-replicate n k x x h
  | inr h ↦ get_or_past (replicate n x) k x (omega (arith, length-replicate n x))
]
