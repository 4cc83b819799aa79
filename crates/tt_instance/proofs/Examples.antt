-- Small instances on which the definitions compute.
use Rattle.std.proofs.Common.{ℕ, List, [], ◌∷◌, codes}
use Rattle.tt_instance.specs.Problem.{Course, Room, Curriculum, Unavailability, Problem}
use Rattle.tt_instance.specs.declared.cell.Cell.{Cell}

-- an entry by course, room, day and period
abbrev pub at : ℕ → ℕ → ℕ → ℕ → Cell
at c r d s = record { course = c; room = r; day = d; period = s }

abbrev pub course : List ℕ → List ℕ → ℕ → ℕ → ℕ → Course
course id teacher l w s = record { id = id; teacher = teacher; lectures = l; min_days = w; students = s }

abbrev pub room : List ℕ → ℕ → Room
room id seats = record { id = id; capacity = seats }

abbrev pub unavailability : ℕ → ℕ → ℕ → Unavailability
unavailability c d s = record { course = c; day = d; period = s }

-- a week without unavailabilities
abbrev pub week : ℕ → ℕ → List Course → List Room → List Curriculum → Problem
week days periods courses rooms curricula = record {
  name = [];
  days = days;
  periods = periods;
  courses = courses;
  rooms = rooms;
  curricula = curricula;
  unavailabilities = [];
}

-- course a of teacher t1 and course b of teacher t2, each with one lecture
abbrev pub two_courses : List Course
two_courses = course (codes "a") (codes "t1") 1 1 10 ∷ course (codes "b") (codes "t2") 1 1 12 ∷ []

abbrev pub both : List Curriculum
both = record { id = codes "q"; members = 0 ∷ 1 ∷ [] } ∷ []

abbrev pub mini : Problem
mini = week 1 3 two_courses (room (codes "R") 11 ∷ []) both

-- the second period is unavailable to both courses
abbrev pub gap : Problem
gap = record mini { unavailabilities = unavailability 0 0 1 ∷ unavailability 1 0 1 ∷ [] }

abbrev pub long : Problem
long = week 2 1 two_courses (room (codes "R") 11 ∷ []) both

abbrev pub wide : Problem
wide = week 5 1 (course (codes "a") (codes "t1") 2 3 10 ∷ []) (room (codes "R") 11 ∷ []) []

abbrev pub two_rooms : List Room
two_rooms = room (codes "A") 10 ∷ room (codes "B") 10 ∷ []

-- two courses of one teacher and one period
abbrev pub same : Problem
same = week 1 1 (course (codes "x") (codes "t") 1 1 1 ∷ course (codes "y") (codes "t") 1 1 1 ∷ []) two_rooms []

-- two courses of two teachers, with only one room and one period
abbrev pub apart : Problem
apart = week 1 1 (course (codes "x") (codes "t1") 1 1 1 ∷ course (codes "y") (codes "t2") 1 1 1 ∷ []) (room (codes "A") 10 ∷ []) []

abbrev pub trio : Problem
trio =
    week 1 1 (course (codes "x") (codes "t1") 1 1 1 ∷ course (codes "y") (codes "t2") 1 1 1 ∷ course (codes "z") (codes "t3") 1 1 1 ∷ [])
    (room (codes "A") 10 ∷ []) (record { id = codes "q"; members = 0 ∷ 1 ∷ 2 ∷ [] } ∷ [])

abbrev pub tour : Problem
tour = week 3 1 (course (codes "x") (codes "t1") 3 3 1 ∷ []) two_rooms []
