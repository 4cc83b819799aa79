-- Bytes above the space: nearly all bytes of tokens are such bytes.
use Rattle.std.specs.Prelude.{ℕ, Bool, nat_lt}

-- Whether the byte is greater than that of a space, 32.
abbrev pub is_plain : ℕ → Bool
is_plain b = nat_lt 32 b
