-- The offsets of the words of a line.
use Rattle.std.specs.Prelude.{ℕ, ◌+◌, ◌<◌, ◌^◌, List, All}
use Rattle.tt_text.specs.Tokens.{Placed}

-- The tokens of a line that begins at this offset have offsets in the text that are numbers of 64 bits.
abbrev pub AreInText : ℕ → List Placed → Type 0
AreInText at ts = All (λ t. at + t.at < 2 ^ 64) ts
