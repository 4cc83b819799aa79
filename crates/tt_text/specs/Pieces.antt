-- The parts of a file: pieces, each of them one token.
use Rattle.std.specs.Prelude.{◌≡◌, ℕ, true, List, [], ◌∷◌}
use Rattle.tt_text.specs.Tokens.{Placed}
use Rattle.tt_text.specs.Numbers.{is_number_text, value_on}

-- Exactly these bytes, a number in decimal digits, or a letter immediately followed by a number.
pub data Piece : Type 0 where
  Text : List ℕ → Piece
  Number : ℕ → Piece
  Index : ℕ → ℕ → Piece

-- The digits have this value; leading zeros have no meaning.
pub record SpellsNumber (digits : List ℕ) (n : ℕ) : Type 0 where
  pub digits_only : is_number_text digits ≡ true
  pub value : value_on 0 digits ≡ n

-- The bytes of a token are this piece.
abbrev pub IsPiece : Piece → List ℕ → Type 0
IsPiece (Text text) bytes = bytes ≡ text
IsPiece (Number n) bytes = SpellsNumber bytes n
IsPiece (Index letter n) bytes = (digits : List ℕ) × (bytes ≡ letter ∷ digits) × SpellsNumber digits n

-- The tokens begin with these pieces, followed by `rest`.
abbrev pub Begins : List Piece → List Placed → List Placed → Type 0
Begins [] ts rest = ts ≡ rest
Begins (p ∷ ps) [] rest = ⊥
Begins (p ∷ ps) (t ∷ ts) rest = IsPiece p t.text × Begins ps ts rest
