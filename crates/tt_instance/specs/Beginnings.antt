-- Files with the same beginning.
use Rattle.std.specs.Prelude.{◌≡◌, ℕ, nat_le, List, ◌++◌, map}
use Rattle.std.specs.List.{take_while}
use Rattle.tt_text.specs.Tokens.{Placed, tokens_of}

-- The tokens of the bytes up to the one at this offset, including that one.
abbrev pub tokens_up_to : ℕ → List ℕ → List Placed
tokens_up_to at bytes = take_while (λ t. nat_le t.at at) (tokens_of bytes)

-- The texts of tokens, regardless of their offsets.
abbrev pub texts_of : List Placed → List (List ℕ)
texts_of ts = map (λ t. t.text) ts

-- The other bytes begin like these up to and including the token at this offset: so far their tokens have the same texts. Any bytes may follow.
pub record BeginsAs (at : ℕ) (bytes other : List ℕ) : Type 0 where
  pub more : List (List ℕ)
  pub same : texts_of (tokens_of other) ≡ texts_of (tokens_up_to at bytes) ++ more
