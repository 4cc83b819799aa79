-- The limits on one course, on one curriculum and on one unavailability.
use Rattle.std.specs.Prelude.{ℕ, ◌≤◌, ◌<◌, length, All}
use Rattle.tt_instance.specs.declared.limit.TheConstants.{MAX_MEMBERS, MAX_MIN_DAYS, MAX_SEATS}
use Rattle.tt_instance.specs.Problem.{Course, Curriculum, Unavailability}

abbrev pub IsCourse : Course → Type 0
IsCourse c = (c.min_days ≤ MAX_MIN_DAYS) × (c.students ≤ MAX_SEATS)

-- the members of a curriculum are numbers below this number of courses
abbrev pub IsCurriculum : ℕ → Curriculum → Type 0
IsCurriculum courses q = (length q.members ≤ MAX_MEMBERS) × All (λ c. c < courses) q.members

abbrev pub IsUnavailability : ℕ → ℕ → ℕ → Unavailability → Type 0
IsUnavailability courses days periods b = (b.course < courses) × (b.day < days) × (b.period < periods)
