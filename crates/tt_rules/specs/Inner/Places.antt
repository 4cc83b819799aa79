-- The places of a week with one free place between two days, so that days do not join.
use Rattle.std.specs.Prelude.{ℕ, ◌+◌, ◌-◌, ◌*◌, Bool, false, not, ◌||◌, List, slice_index_or}
use Rattle.tt_instance.specs.Problem.{Problem}
use Rattle.tt_instance.specs.declared.cell.Cell.{Cell}

-- The place of an entry's period, from 1.
abbrev pub place_of : Problem → Cell → ℕ
place_of p e = e.day * (p.periods + 1) + e.period + 1

-- No place immediately before an entry's or immediately after it is marked.
abbrev pub is_alone : Problem → List Bool → Cell → Bool
is_alone p marks e = not (slice_index_or marks (place_of p e + 1) false || slice_index_or marks (place_of p e - 1) false)
