-- What holds of each state.
use Rattle.std.specs.Prelude.{◌≡◌, ℕ, ◌^◌, ◌<◌, Bool, List, [], length, slice_index, slice_index_or}
use Rattle.tt_instance.specs.Problem.{Problem}
use Rattle.tt_plans_slots.specs.Levels.{level}
use Rattle.tt_plans_slots.specs.Teaching.{Teaching, KeepsPeriods, slot_count, taught, most}

-- The state that the tables have.
abbrev pub teaching : Problem → List (List Bool) → List (List ℕ) → Teaching
teaching p rows spares = record { problem = p; rows = rows; spares = spares }

-- The list has the level of each course.
pub record AreLevels (p : Problem) (levels : List ℕ) : Type 0 where
  pub len : length levels ≡ length p.courses
  pub each : (c : ℕ) → c < length p.courses → slice_index levels c ≡ level p c

-- The tables have a row for each slot, with a place for each course or for each level.
pub record IsShaped (v : Teaching) : Type 0 where
  pub rows : length v.rows ≡ slot_count v.problem
  pub spares : length v.spares ≡ slot_count v.problem
  pub courses : (s : ℕ) → s < slot_count v.problem → length (slice_index_or v.rows s []) ≡ length v.problem.courses
  pub levels : (s : ℕ) → s < slot_count v.problem → length (slice_index_or v.spares s []) ≡ length v.problem.rooms

-- The tables have their shape, the rules of periods hold, and what a slot may take fits into a number of 32 bits.
pub record IsTeaching (v : Teaching) : Type 0 where
  pub shaped : IsShaped v
  pub kept : KeepsPeriods v.problem (taught v)
  pub few : length v.problem.courses < 2 ^ 31
  pub fits : (s k : ℕ) → k < length v.problem.rooms → most v s k < 2 ^ 31
