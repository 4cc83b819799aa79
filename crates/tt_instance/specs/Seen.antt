-- The values that a contract sees of the rows of a table.
use Rattle.std.specs.Prelude.{ℕ, List, map}
use Rattle.std.specs.Borrow.{Bor}
use Rattle.tt_instance.specs.declared.rows.CourseRow.{CourseRow}
use Rattle.tt_instance.specs.declared.rows.RoomRow.{RoomRow}
use Rattle.tt_instance.specs.declared.rows.CurriculumRow.{CurriculumRow}
use Rattle.tt_instance.specs.declared.rows.UnavailabilityRow.{UnavailabilityRow}
use Rattle.tt_instance.specs.declared.parts.Parts.{Parts}
use Rattle.tt_instance.specs.Problem.{Course, Room, Curriculum, Unavailability, Problem}

-- The texts of the tokens of a name, to which the list has references.
abbrev pub name_seen : List (Bor (List ℕ)) → List (List ℕ)
name_seen ts = map (λ t. t.now) ts

-- The course of a row.
abbrev pub course_seen : CourseRow → Course
course_seen r = record { id = r.id.now; teacher = r.teacher_name.now; lectures = r.lectures; min_days = r.min_days; students = r.students }

-- The course of each row, in order.
abbrev pub courses_seen : List CourseRow → List Course
courses_seen rs = map course_seen rs

-- The room of a row.
abbrev pub room_seen : RoomRow → Room
room_seen r = record { id = r.id.now; capacity = r.capacity }

-- The room of each row, in order.
abbrev pub rooms_seen : List RoomRow → List Room
rooms_seen rs = map room_seen rs

-- The curriculum of a row.
abbrev pub curriculum_seen : CurriculumRow → Curriculum
curriculum_seen r = record { id = r.id.now; members = r.members.courses.items }

-- The curriculum of each row, in order.
abbrev pub curricula_seen : List CurriculumRow → List Curriculum
curricula_seen rs = map curriculum_seen rs

-- The unavailability of a row.
abbrev pub unavailability_seen : UnavailabilityRow → Unavailability
unavailability_seen r = record { course = r.course; day = r.day; period = r.period }

-- The unavailability of each row, in order.
abbrev pub unavailabilities_seen : List UnavailabilityRow → List Unavailability
unavailabilities_seen rs = map unavailability_seen rs

-- The instance that has these parts.
abbrev pub problem_seen : Parts → Problem
problem_seen a = record {
  name = name_seen a.name.items;
  days = a.days;
  periods = a.periods;
  courses = courses_seen a.courses.rows.items;
  rooms = rooms_seen a.rooms.items;
  curricula = curricula_seen a.curricula.items;
  unavailabilities = unavailabilities_seen a.unavailabilities.rows.items;
}
