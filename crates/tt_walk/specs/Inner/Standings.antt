-- The state of a search.
use Rattle.std.specs.Prelude.{◌≡◌}
use Rattle.tt_walk.specs.declared.standing.Standing.{Standing}

-- the timetable that the search has reached is the best one
abbrev pub IsAtBest : Standing → Type 0
IsAtBest s = s.best.entries.items ≡ s.occupied.entries
