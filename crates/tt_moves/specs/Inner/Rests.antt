-- A timetable without an entry.
use Rattle.std.specs.Prelude.{◌≡◌, ℕ, ◌+◌, Bool, true, cond, ◌&&◌, List, count_by}
use Rattle.std.specs.Borrow.{Bor}
use Rattle.tt_instance.specs.Cells.{InRange, slot, is_of, is_at}
use Rattle.tt_instance.specs.Courses.{in_curriculum}
use Rattle.tt_instance.specs.declared.cell.Cell.{Cell}
use Rattle.tt_table.specs.Table.{IsTimetable}
use Rattle.tt_occupancy.specs.Filled.{Filled, entry_at}
use Rattle.tt_moves.specs.declared.rest.WithoutEntry.{WithoutEntry}

-- all entries of a timetable except the one at place i
abbrev pub rest_without : Bor Filled → ℕ → WithoutEntry
rest_without o i = record { occupied = o; from = entry_at o.now.entries i; to = entry_at o.now.entries i; gone = entry_at o.now.entries i }

-- u has the entries of the timetable, except that one is moved and one is left out
pub record IsRest (r : WithoutEntry) (u : List Cell) : Type 0 where
  pub in_range : IsTimetable r.occupied.now.problem u
  pub gone : InRange r.occupied.now.problem r.gone
  pub course : r.from.course ≡ r.to.course
  pub counts : (test : Cell → Bool) → count_by test u + cond (test r.from) 1 0 + cond (test r.gone) 1 0 ≡ count_by test r.occupied.now.entries + cond (test r.to) 1 0
  -- no other entry of the course of the entry left out has moved
  pub own : (test : Cell → Bool) → (is_of r.gone.course r.from && test r.from) ≡ (is_of r.gone.course r.to && test r.to)

-- on day d the moved entry counts in each curriculum of the course left out as it did before
abbrev pub IsStill : WithoutEntry → ℕ → Type 0
IsStill r d = (q s : ℕ) → in_curriculum r.occupied.now.problem q r.gone.course ≡ true → (in_curriculum r.occupied.now.problem q r.from.course && is_at (slot d s) r.from) ≡ (in_curriculum r.occupied.now.problem q r.to.course && is_at (slot d s) r.to)
