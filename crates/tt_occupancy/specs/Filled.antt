-- A timetable of an instance, and its state after a move or an exchange.
use Rattle.std.specs.Prelude.{ℕ, List, slice_index_or, slice_set}
use Rattle.tt_instance.specs.Problem.{Problem}
use Rattle.tt_instance.specs.declared.cell.Cell.{Cell}

-- an instance and the entries of a timetable of it
pub record Filled : Type 0 where
  pub problem : Problem
  pub entries : List Cell

-- The entry for a place that a list doesn't have: all its numbers are 0.
abbrev pub no_entry : Cell
no_entry = record { course = 0; room = 0; day = 0; period = 0 }

-- The entry at a place of a list; a place beyond its end has the entry whose numbers are all 0.
abbrev pub entry_at : List Cell → ℕ → Cell
entry_at t i = slice_index_or t i no_entry

-- the entry's course in the room, day and period of the other entry
abbrev pub in_place_of : Cell → Cell → Cell
in_place_of e place = record { course = e.course; room = place.room; day = place.day; period = place.period }

-- one entry has another room, day and period
abbrev pub moved : List Cell → ℕ → ℕ → ℕ → ℕ → List Cell
moved t i r d s = slice_set t i (record { course = (entry_at t i).course; room = r; day = d; period = s })

-- two entries have exchanged room, day and period
abbrev pub swapped : List Cell → ℕ → ℕ → List Cell
swapped t i j = slice_set (slice_set t i (in_place_of (entry_at t i) (entry_at t j))) j (in_place_of (entry_at t j) (entry_at t i))
