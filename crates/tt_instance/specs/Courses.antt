-- The data of a course, a room or a curriculum of an instance; if the number is out of range, it is empty or zero.
use Rattle.std.specs.Prelude.{ℕ, ◌-◌, ◌==◌, Bool, not, ◌&&◌, ◌||◌, List, [], slice_get, slice_index_or, map}
use Rattle.std.specs.List.{list_any}
use Rattle.tt_list_laws.specs.Words.{has_number}
use Rattle.tt_text.specs.Texts.{is_same_text, distinct_names}
use Rattle.tt_instance.specs.Problem.{Course, Room, Curriculum, Problem}

-- The course for a number out of range: its name and its teacher are empty, and its numbers are 0.
abbrev pub no_course : Course
no_course = record { id = []; teacher = []; lectures = 0; min_days = 0; students = 0 }

-- The room for a number out of range: its name is empty, and it has no seats.
abbrev pub no_room : Room
no_room = record { id = []; capacity = 0 }

-- The curriculum for a number out of range: its name is empty, and it has no members.
abbrev pub no_curriculum : Curriculum
no_curriculum = record { id = []; members = [] }

-- The number of lectures of the course; 0 if there is no such course.
abbrev pub lectures : Problem → ℕ → ℕ
lectures p c = (slice_index_or p.courses c no_course).lectures

-- The minimum number of working days of the course; 0 if there is no such course.
abbrev pub min_days : Problem → ℕ → ℕ
min_days p c = (slice_index_or p.courses c no_course).min_days

-- The number of students of the course; 0 if there is no such course.
abbrev pub students : Problem → ℕ → ℕ
students p c = (slice_index_or p.courses c no_course).students

-- The number of seats of the room; 0 if there is no such room.
abbrev pub capacity : Problem → ℕ → ℕ
capacity p r = (slice_index_or p.rooms r no_room).capacity

-- The numbers of the courses of the curriculum; none if there is no such curriculum.
abbrev pub members : Problem → ℕ → List ℕ
members p q = (slice_index_or p.curricula q no_curriculum).members

-- The number of students for whom the room has no seat.
abbrev pub excess : Problem → ℕ → ℕ → ℕ
excess p c r = students p c - capacity p r

-- ---- names

-- The name of each course of the instance, in order.
abbrev pub course_ids : Problem → List (List ℕ)
course_ids p = map (λ c. c.id) p.courses

-- The name of each room of the instance, in order.
abbrev pub room_ids : Problem → List (List ℕ)
room_ids p = map (λ r. r.id) p.rooms

-- The name of each curriculum of the instance, in order.
abbrev pub curriculum_ids : Problem → List (List ℕ)
curriculum_ids p = map (λ q. q.id) p.curricula

-- The teacher of each course.
abbrev pub course_teachers : Problem → List (List ℕ)
course_teachers p = map (λ c. c.teacher) p.courses

-- Each teacher once, in the order of first mention.
abbrev pub teachers : Problem → List (List ℕ)
teachers p = distinct_names (course_teachers p)

-- -- which courses conflict, and which periods are unavailable to a course

-- Whether curriculum `q` has course `c` as a member.
abbrev pub in_curriculum : Problem → ℕ → ℕ → Bool
in_curriculum p q c = has_number (members p q) c

-- Both courses exist and have the same teacher.
abbrev pub one_teacher : Problem → ℕ → ℕ → Bool
one_teacher p a b = is_same_text (slice_get (course_teachers p) a) (slice_get (course_teachers p) b)

-- Some curriculum has both courses.
abbrev pub one_curriculum : Problem → ℕ → ℕ → Bool
one_curriculum p a b = list_any (λ q. has_number q.members a && has_number q.members b) p.curricula

-- Two different courses with the same teacher or a common curriculum (the competition's hard rule "Conflicts").
abbrev pub conflict : Problem → ℕ → ℕ → Bool
conflict p a b = not (a == b) && (one_teacher p a b || one_curriculum p a b)

-- The course must not have a lecture in this period (the hard rule "Availability").
abbrev pub unavailable : Problem → ℕ → ℕ → ℕ → Bool
unavailable p c d s = list_any (λ b. (b.course == c) && (b.day == d) && (b.period == s)) p.unavailabilities
