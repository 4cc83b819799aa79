-- Which instance the bytes of a `.ctt` file spell: their tokens are those of the instance as it is written, except for leading zeros
-- of its numbers (the competition's input format; the limits are this project's own).
use Rattle.std.specs.Prelude.{◌≡◌, ℕ, ◌==◌, List, [], ◌∷◌, ◌++◌, length, map, flat_map, slice_index_or, codes}
use Rattle.tt_list_laws.specs.Words.{distinct}
use Rattle.tt_text.specs.Tokens.{Placed, tokens_of}
use Rattle.tt_text.specs.Pieces.{Piece, Text, Number, Begins}
use Rattle.tt_instance.specs.Problem.{Course, Room, Curriculum, Unavailability, Problem}
use Rattle.tt_instance.specs.Courses.{no_course}
use Rattle.tt_instance.specs.Limits.{same_unavailability, IsWithinLimits}

-- A course by its name.
abbrev pub named : List Course → ℕ → Piece
named cs c = Text (slice_index_or cs c no_course).id

-- The pieces of a course: its name, its teacher, and its numbers of lectures, of minimum working days and of students.
abbrev pub course_pieces : Course → List Piece
course_pieces c = Text c.id ∷ Text c.teacher ∷ Number c.lectures ∷ Number c.min_days ∷ Number c.students ∷ []

-- The pieces of a room: its name and its number of seats.
abbrev pub room_pieces : Room → List Piece
room_pieces r = Text r.id ∷ Number r.capacity ∷ []

-- The pieces of a curriculum: its name, the number of its members, and the name of each member.
abbrev pub curriculum_pieces : List Course → Curriculum → List Piece
curriculum_pieces cs q = Text q.id ∷ Number (length q.members) ∷ map (named cs) q.members

-- The pieces of an unavailability: the name of its course, and the numbers of its day and its period.
abbrev pub unavailability_pieces : List Course → Unavailability → List Piece
unavailability_pieces cs b = named cs b.course ∷ Number b.day ∷ Number b.period ∷ []

-- The pieces of the header after the name: six fixed words, each with its number after it.
abbrev pub header_pieces : Problem → List Piece
header_pieces p =
    Text (codes "Courses:") ∷ Number (length p.courses) ∷ Text (codes "Rooms:") ∷ Number (length p.rooms)
    ∷ Text (codes "Days:") ∷ Number p.days ∷ Text (codes "Periods_per_day:") ∷ Number p.periods
    ∷ Text (codes "Curricula:") ∷ Number (length p.curricula) ∷ Text (codes "Constraints:") ∷ Number (length p.unavailabilities) ∷ []

-- The pieces of a whole file.
abbrev pub pieces : Problem → List Piece
pieces p =
    (Text (codes "Name:") ∷ map Text p.name)
    ++ header_pieces p
    ++ (Text (codes "COURSES:") ∷ flat_map course_pieces p.courses)
    ++ (Text (codes "ROOMS:") ∷ flat_map room_pieces p.rooms)
    ++ (Text (codes "CURRICULA:") ∷ flat_map (curriculum_pieces p.courses) p.curricula)
    ++ (Text (codes "UNAVAILABILITY_CONSTRAINTS:") ∷ flat_map (unavailability_pieces p.courses) p.unavailabilities)
    ++ (Text (codes "END.") ∷ [])

-- The curriculum with each member once, in the order of first mention.
abbrev pub without_repeated_members : Curriculum → Curriculum
without_repeated_members q = record q { members = distinct (λ a b. a == b) q.members }

-- The instance of a file's lines without repeats: each member of a curriculum and each unavailability once, in the order of first mention.
abbrev pub without_repeats : Problem → Problem
without_repeats w = record w { curricula = map without_repeated_members w.curricula; unavailabilities = distinct same_unavailability w.unavailabilities }

-- The bytes spell the instance: they begin with the pieces of an instance that is this one if repeats are removed. Bytes after `END.` are not read.
pub record Spells (bytes : List ℕ) (p : Problem) : Type 0 where
  pub written : Problem
  pub rest : List Placed
  pub begins : Begins (pieces written) (tokens_of bytes) rest
  pub within : IsWithinLimits written
  pub is_kept : p ≡ without_repeats written
