-- Days on which the same courses are available in the same periods.
use Rattle.std.specs.Prelude.{◌≡◌, ℕ, ◌<◌, List, Contains}
use Rattle.tt_instance.specs.Problem.{Problem}
use Rattle.tt_instance.specs.Courses.{unavailable}

-- Whether each of the courses is unavailable in the same periods of both days.
abbrev pub IsSameAvailability : Problem → List ℕ → ℕ → ℕ → Type 0
IsSameAvailability p cs d e = (c s : ℕ) → Contains cs c → s < p.periods → unavailable p c d s ≡ unavailable p c e s
