-- The lists of an instance are read element by element.
use Rattle.std.proofs.Common.{ℕ, List, refl}
use Rattle.tt_instance_read.specs.Reading.{course_at, courses_at, room_at, rooms_at, member_at, members_at, curriculum_at, curricula_at, unavailability_at, unavailabilities_at}
use Rattle.tt_instance_read.proofs.SeriesLaws.{IsSeries}

-- courses
pub courses_repeat : (end : ℕ) → IsSeries (course_at end) (courses_at end)
unfolding courses_at
courses_repeat end = record { none = λ x ts. refl; more = λ n x ts. refl }

-- rooms
pub rooms_repeat : (end : ℕ) → IsSeries (room_at end) (rooms_at end)
unfolding rooms_at
rooms_repeat end = record { none = λ x ts. refl; more = λ n x ts. refl }

-- members of a curriculum
pub members_repeat : (end : ℕ) (ids : List (List ℕ)) → IsSeries (member_at end ids) (members_at end ids)
unfolding members_at
members_repeat end ids = record { none = λ x ts. refl; more = λ n x ts. refl }

-- curricula
pub curricula_repeat : (end : ℕ) (ids : List (List ℕ)) → IsSeries (curriculum_at end ids) (curricula_at end ids)
unfolding curricula_at
curricula_repeat end ids = record { none = λ x ts. refl; more = λ n x ts. refl }

-- unavailabilities
pub unavailabilities_repeat : (end : ℕ) (ids : List (List ℕ)) (days periods : ℕ) → IsSeries (unavailability_at end ids days periods)
    (unavailabilities_at end ids days periods)
unfolding unavailabilities_at
unavailabilities_repeat end ids days periods = record { none = λ x ts. refl; more = λ n x ts. refl }
