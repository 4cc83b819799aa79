-- Definitions on lists.
use Rattle.std.specs.Prelude.{ℕ, ◌+◌, ◌==◌, ◌≢◌, Bool, true, not, ◌&&◌, List, [], ◌∷◌, ◌++◌, AllPairs, count_by, fold, if◌then◌else◌}
use Rattle.std.specs.List.{range_with_len, list_all, list_any}

-- The n numbers 0, 1 and so on, up to n - 1.
abbrev pub range_below : ℕ → List ℕ
range_below n = range_with_len 0 n

-- Whether the list has the number.
abbrev pub has_number : List ℕ → ℕ → Bool
has_number ns n = list_any (λ m. m == n) ns

-- Whether each element is related to each later one.
abbrev pub each_two : {X : Type 0} → (X → X → Bool) → List X → Bool
each_two related [] = true
each_two related (x ∷ xs) = list_all (related x) xs && each_two related xs

-- No element is in the list twice.
abbrev pub AreDistinct : {X : Type 0} → List X → Type 0
AreDistinct xs = AllPairs (λ a b. a ≢ b) xs

-- Whether no number is in the list twice.
abbrev pub are_distinct : List ℕ → Bool
are_distinct ns = each_two (λ a b. not (a == b)) ns

-- How many pairs of an element and a later one are related.
abbrev pub count_pairs : {X : Type 0} → (X → X → Bool) → List X → ℕ
count_pairs related [] = 0
count_pairs related (x ∷ xs) = count_by (related x) xs + count_pairs related xs

-- The list with x at its end, if it has none like it; otherwise the list itself.
abbrev pub with_new : {X : Type 0} → (X → X → Bool) → List X → X → List X
with_new same xs x = if list_any (λ y. same y x) xs then xs else xs ++ x ∷ []

-- Each element once, in the order of first mention.
abbrev pub distinct : {X : Type 0} → (X → X → Bool) → List X → List X
distinct same xs = fold (with_new same) [] xs
