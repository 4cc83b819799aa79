-- An instance with other unavailabilities.
use Rattle.std.specs.Prelude.{◌<◌, List, length}
use Rattle.tt_instance.specs.Problem.{Unavailability, Problem}

-- The course, the day and the period are the instance's.
abbrev pub IsUnavailabilityOf : Problem → Unavailability → Type 0
IsUnavailabilityOf p b = (b.course < length p.courses) × (b.day < p.days) × (b.period < p.periods)

-- The instance with these unavailabilities in place of its own.
abbrev pub with_unavailabilities : Problem → List Unavailability → Problem
with_unavailabilities p bs = record {
  name = p.name;
  days = p.days;
  periods = p.periods;
  courses = p.courses;
  rooms = p.rooms;
  curricula = p.curricula;
  unavailabilities = bs;
}
