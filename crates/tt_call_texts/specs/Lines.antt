-- Lines of JSON (RFC 8259).
use Rattle.std.specs.Prelude.{◌≡◌, ℕ, List, [], ◌∷◌, ◌++◌, Some}
use Rattle.serde_json.specs.Data.{Data}
use Rattle.serde_json.specs.Read.{read}

-- The bytes are a text that reads as this value, and the end of its line.
pub record IsLineOf (d : Data) (bytes : List ℕ) : Type 0 where
  pub text : List ℕ
  pub reads : read text ≡ Some d
  pub line : bytes ≡ text ++ 10 ∷ []
