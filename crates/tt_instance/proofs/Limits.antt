-- Properties of an instance within the limits at each place.
use Rattle.std.proofs.Common.{ℕ, ◌<◌, length}
use Rattle.std.specs.Prelude.{All}
use Rattle.tt_instance.specs.Problem.{Problem}
use Rattle.tt_instance.specs.Courses.{no_curriculum, members}
use Rattle.tt_instance.specs.Limits.{IsInstance}

-- the members of a curriculum are courses
pub members_below : (p : Problem) (q : ℕ) → IsInstance p → q < length p.curricula → All (λ c. c < length p.courses) (members p q)
members_below p q ok h = (ok.within.each_curriculum q no_curriculum h).1
