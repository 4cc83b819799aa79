-- The range of periods and of spots.
use Rattle.std.specs.Prelude.{◌+◌, ◌<◌, length}
use Rattle.tt_instance.specs.Problem.{Problem}
use Rattle.tt_instance.specs.declared.cell.Slot.{Slot}
use Rattle.tt_path_tables.specs.declared.spot.Spot.{Spot}

-- The period is one of the instance.
pub record IsSlot (p : Problem) (s : Slot) : Type 0 where
  pub day : s.day < p.days
  pub period : s.period < p.periods

-- The same, or the day after the last, which stands for all days, or the period after the last.
pub record IsWideSlot (p : Problem) (s : Slot) : Type 0 where
  pub day : s.day < p.days + 1
  pub period : s.period < p.periods + 1

-- The course and the period of the spot are in the instance; the room may be out of range.
pub record IsSpot (p : Problem) (x : Spot) : Type 0 where
  pub course : x.course < length p.courses
  pub slot : IsSlot p x.slot
