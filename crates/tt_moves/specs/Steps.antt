-- Steps from one timetable to the next.
use Rattle.std.specs.Prelude.{ℕ, ◌<◌, List, length}
use Rattle.tt_instance.specs.Problem.{Problem}
use Rattle.tt_instance.specs.declared.cell.Cell.{Cell}
pub use Rattle.tt_occupancy.specs.Filled.{no_entry, entry_at, in_place_of, moved, swapped}
use Rattle.tt_moves.specs.declared.step.Step.{Step}
use Rattle.tt_moves.specs.declared.step.Step.TheVariants.{Move, Swap}

-- the entry that moves, or the first of the two
abbrev pub first_of : Step → ℕ
first_of (Move i r d s) = i
first_of (Swap i j) = i

-- the list after a step: a Move gives one entry another room, day and period, a Swap exchanges them between two
abbrev pub stepped : List Cell → Step → List Cell
stepped t (Move i r d s) = moved t i r d s
stepped t (Swap i j) = swapped t i j

-- whether the step's numbers are an entry's, a room's and a period's
abbrev pub CanStep : Problem → List Cell → Step → Type 0
CanStep p t (Move i r d s) = (i < length t) × (r < length p.rooms) × (d < p.days) × (s < p.periods)
CanStep p t (Swap i j) = (i < length t) × (j < length t)
