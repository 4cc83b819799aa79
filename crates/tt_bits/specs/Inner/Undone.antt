-- Tables as they were before some writes.
use Rattle.std.specs.Prelude.{ℕ, ◌≤◌, ◌<◌, List, [], ◌∷◌, ◌++◌, drop, map, slice_set}
use Rattle.std.specs.List.{AllByRecursion}
use Rattle.tt_bits.specs.declared.trail.Old.{Old}

-- The table before some writes. The log has, for each write, its place and the number at that place before it, the oldest first.
abbrev pub undone : List ℕ → List Old → List ℕ
undone words [] = words
undone words (o ∷ os) = slice_set (undone words os) o.place o.word

-- The table at the time when the log had this length.
abbrev pub table_at : List ℕ → List Old → ℕ → List ℕ
table_at words log mark = undone words (drop mark log)

-- The tables at the times when the log had these lengths, one for each length, in order.
abbrev pub tables_at : List ℕ → List Old → List ℕ → List (List ℕ)
tables_at words log marks = map (table_at words log) marks

-- Each number is at most each later one, and the last is at most n.
abbrev pub IsClimb : List ℕ → ℕ → Type 0
IsClimb [] n = Unit {0}
IsClimb (m ∷ ms) n = AllByRecursion (λ k. m ≤ k) (ms ++ n ∷ []) × IsClimb ms n

-- Each write of the log has a place below n.
abbrev pub AreWithin : ℕ → List Old → Type 0
AreWithin n log = AllByRecursion (λ o. o.place < n) log
