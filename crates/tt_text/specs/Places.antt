-- The tokens of a text and their places, defined without reading the text from left to right.
use Rattle.std.specs.Prelude.{◌≡◌, ℕ, ◌+◌, true, List, [], ◌∷◌, ◌++◌, length, ⊤}
use Rattle.std.specs.List.{list_all}
use Rattle.tt_text.specs.Tokens.{Placed, IsToken, is_separator}

-- The end comes next, or a separator.
abbrev pub IsApart : List ℕ → Type 0
IsApart [] = ⊤
IsApart (b ∷ bs) = is_separator b ≡ true

-- The bytes, which begin at offset `at`, are separators, then the token, then `back`.
pub record IsFirst (at : ℕ) (bytes : List ℕ) (t : Placed) (back : List ℕ) : Type 0 where
  pub gap : List ℕ
  pub whole : bytes ≡ gap ++ (t.text ++ back)
  pub separators : list_all is_separator gap ≡ true
  pub token : IsToken t.text
  pub offset : t.at ≡ at + length gap
  pub apart : IsApart back

-- The bytes, which begin at offset `at`, are separators and these tokens.
abbrev pub HasTokens : ℕ → List ℕ → List Placed → Type 0
HasTokens at bytes [] = list_all is_separator bytes ≡ true
HasTokens at bytes (t ∷ ts) = (back : List ℕ) × IsFirst at bytes t back × HasTokens (t.at + length t.text) back ts
