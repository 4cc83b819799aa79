-- The limits of an instance, and the properties of every instance that was read.
use Rattle.std.specs.Prelude.{◌≡◌, ◌≢◌, ◌*◌, ◌≤◌, ◌<◌, ◌==◌, Bool, true, not, ◌&&◌, length, sum_by, All, AllPairs, codes}
use Rattle.tt_list_laws.specs.Words.{each_two, are_distinct}
use Rattle.tt_text.specs.Tokens.{IsToken}
use Rattle.tt_instance.specs.declared.limit.TheConstants.{MAX_COURSES, MAX_ROOMS, MAX_DAYS, MAX_PERIODS, MAX_SLOTS, MAX_CELLS, MAX_CURRICULA, MAX_MEMBERS, MAX_UNAVAILABILITIES, MAX_LECTURES, MAX_MIN_DAYS, MAX_SEATS}
use Rattle.tt_instance.specs.Problem.{Unavailability, Problem}

-- The limits of the format; no two courses, no two rooms and no two curricula have the same name; members and unavailabilities refer to
-- courses, days and periods that exist.
pub record IsWithinLimits (p : Problem) : Type 0 where
  pub name : All (λ text. text ≢ codes "Courses:") p.name
  pub courses : length p.courses ≤ MAX_COURSES
  pub rooms : length p.rooms ≤ MAX_ROOMS
  pub some_day : 0 < p.days
  pub days : p.days ≤ MAX_DAYS
  pub some_period : 0 < p.periods
  pub periods : p.periods ≤ MAX_PERIODS
  pub slots : p.days * p.periods ≤ MAX_SLOTS
  pub cells : (length p.courses * length p.rooms) * (p.days * p.periods) ≤ MAX_CELLS
  pub curricula : length p.curricula ≤ MAX_CURRICULA
  pub unavailabilities : length p.unavailabilities ≤ MAX_UNAVAILABILITIES
  pub course_names : AllPairs (λ c d. c.id ≢ d.id) p.courses
  pub room_names : AllPairs (λ r s. r.id ≢ s.id) p.rooms
  pub curriculum_names : AllPairs (λ q r. q.id ≢ r.id) p.curricula
  pub lectures : sum_by (λ c. c.lectures) p.courses ≤ MAX_LECTURES
  pub each_course : All (λ c. (c.min_days ≤ MAX_MIN_DAYS) × (c.students ≤ MAX_SEATS)) p.courses
  pub each_room : All (λ r. r.capacity ≤ MAX_SEATS) p.rooms
  pub each_curriculum : All (λ q. (length q.members ≤ MAX_MEMBERS) × All (λ c. c < length p.courses) q.members) p.curricula
  pub each_unavailability : All (λ b. (b.course < length p.courses) × (b.day < p.days) × (b.period < p.periods)) p.unavailabilities

-- Whether both have the same course, day and period.
abbrev pub same_unavailability : Unavailability → Unavailability → Bool
same_unavailability a b = (a.course == b.course) && (a.day == b.day) && (a.period == b.period)

-- The properties of every instance that was read: it is within the limits, has each member and each unavailability once, and each name is a token.
pub record IsInstance (p : Problem) : Type 0 where
  pub within : IsWithinLimits p
  pub members_once : All (λ q. are_distinct q.members ≡ true) p.curricula
  pub unavailabilities_once : each_two (λ a b. not (same_unavailability a b)) p.unavailabilities ≡ true
  pub name_tokens : All IsToken p.name
  pub course_tokens : All (λ c. IsToken c.id × IsToken c.teacher) p.courses
  pub room_tokens : All (λ r. IsToken r.id) p.rooms
  pub curriculum_tokens : All (λ q. IsToken q.id) p.curricula
