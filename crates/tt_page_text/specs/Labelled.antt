-- The names of the days and of the periods of a day, each list empty if no names were given.
use Rattle.std.specs.Prelude.{ℕ, List}

-- Names of the days and of the periods of a day; a list is empty if no names were given.
pub record Labelled : Type 0 where
  pub days : List (List ℕ)
  pub periods : List (List ℕ)
