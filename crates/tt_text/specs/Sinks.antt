-- The contents of a sink after a failed write.
use Rattle.std.specs.Prelude.{◌≡◌, ℕ, ◌++◌, List, Option}
use Rattle.std.specs.Io.KnownBytes.{Appends}

-- A part from the front of the bytes was taken.
pub record TakesPart (before after : Option (List ℕ)) (bytes : List ℕ) : Type 0 where
  pub taken : List ℕ
  pub rest : List ℕ
  pub front : bytes ≡ taken ++ rest
  pub appended : Appends before after taken
