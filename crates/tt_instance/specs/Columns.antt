-- Columns of the tables of an instance: the names in a list, and the lectures of a list of courses.
use Rattle.std.specs.Prelude.{ℕ, List, map, sum_by}
use Rattle.tt_instance.specs.Problem.{Course, Room, Curriculum}

-- The names of the courses, in order.
abbrev pub ids_of : List Course → List (List ℕ)
ids_of cs = map (λ c. c.id) cs

-- The names of the rooms, in order.
abbrev pub room_ids_of : List Room → List (List ℕ)
room_ids_of rs = map (λ r. r.id) rs

-- The names of the curricula, in order.
abbrev pub curriculum_ids_of : List Curriculum → List (List ℕ)
curriculum_ids_of qs = map (λ q. q.id) qs

-- The number of all lectures of the courses.
abbrev pub lectures_of : List Course → ℕ
lectures_of cs = sum_by (λ c. c.lectures) cs
