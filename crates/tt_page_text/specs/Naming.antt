-- What names are, in the form that the program stores them.
use Rattle.std.specs.Prelude.{ℕ, List, Vec, map}

-- The letters of each name.
abbrev pub names_seen : {A : Type 0} → List (Vec ℕ A) → List (List ℕ)
names_seen names = map (λ name. name.items) names
