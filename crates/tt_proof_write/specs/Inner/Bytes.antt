-- Counts of bytes.
use Rattle.std.specs.Prelude.{ℕ, ◌-◌, ◌^◌, min}

-- a count that stops at the greatest number of 64 bits
abbrev pub clipped : ℕ → ℕ
clipped n = min n (2 ^ 64 - 1)
