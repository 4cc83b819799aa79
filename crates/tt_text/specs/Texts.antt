-- Definitions on texts and on lists of names.
use Rattle.std.specs.Prelude.{ℕ, Bool, false, nat_eq, List, [], ◌∷◌, ◌++◌, Option, Some, None, position, fold, if◌then◌else◌}
use Rattle.std.specs.List.{list_any}
use Rattle.std.specs.Cmp.Lexicographic.{pointwise}

-- Whether two texts are equal.
abbrev pub is_text : List ℕ → List ℕ → Bool
is_text x y = pointwise nat_eq x y

-- Whether both texts are present and equal.
abbrev pub is_same_text : Option (List ℕ) → Option (List ℕ) → Bool
is_same_text (Some x) (Some y) = is_text x y
is_same_text (Some x) None = false
is_same_text None y = false

-- Whether a list of names has this one.
abbrev pub has_name : List (List ℕ) → List ℕ → Bool
has_name names name = list_any (is_text name) names

-- The first index of a name in a list, if the list has it.
abbrev pub index_of_name : List (List ℕ) → List ℕ → Option ℕ
index_of_name names name = position (is_text name) names

-- The names with this one, added at the end if it is new.
abbrev pub with_name : List (List ℕ) → List ℕ → List (List ℕ)
with_name names name = if has_name names name then names else names ++ name ∷ []

-- Each of the names once, in the order of their first mention.
abbrev pub distinct_names : List (List ℕ) → List (List ℕ)
distinct_names names = fold with_name [] names
