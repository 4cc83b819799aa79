-- The value of a trail.
use Rattle.std.specs.Prelude.{ℕ, List}

-- A table of numbers, and the tables that were marked, the oldest first.
pub record TrailStates : Type 0 where
  pub words : List ℕ
  pub earlier : List (List ℕ)
