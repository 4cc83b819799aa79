-- What the names that go with the rows of an instance are while it is read.
use Rattle.std.specs.Prelude.{◌≡◌, ℕ, ◌≤◌, length, All}
use Rattle.tt_instance.specs.declared.limit.TheConstants.{MAX_LECTURES}
use Rattle.tt_instance.specs.Columns.{ids_of, room_ids_of, curriculum_ids_of, lectures_of}
use Rattle.tt_instance.specs.Seen.{courses_seen, rooms_seen, curricula_seen}
use Rattle.tt_instance.specs.Inner.Indexed.{IsTeacher, AreMarked, teachers_of}
use Rattle.tt_instance_read.specs.declared.named.NamedCourses.{NamedCourses}
use Rattle.tt_instance_read.specs.declared.named.NamedRooms.{NamedRooms}
use Rattle.tt_instance_read.specs.declared.named.NamedCurricula.{NamedCurricula}

-- The list has the name of the course of each row, each teacher once in the order of first mention, and the number of all lectures, which is
-- within its limit. There are at most as many teachers as rows, and each row has the number of its teacher.
pub record AreCoursesNamed (l : NamedCourses) : Type 0 where
  pub ids_are : l.ids ≡ ids_of (courses_seen l.rows.items)
  pub teachers_are : l.teachers ≡ teachers_of (courses_seen l.rows.items)
  pub total : l.lectures ≡ lectures_of (courses_seen l.rows.items)
  pub within : l.lectures ≤ MAX_LECTURES
  pub at_most : length l.teachers ≤ length l.rows.items
  pub numbers : All (IsTeacher l.teachers) l.rows.items

-- The list has the name of the room of each row, in order.
pub record AreRoomsNamed (l : NamedRooms) : Type 0 where
  pub ids_are : l.ids ≡ room_ids_of (rooms_seen l.rows.items)

-- The list has the name of the curriculum of each row, in order, and each row has marks for `count` courses that say which are its members.
pub record AreCurriculaNamed (count : ℕ) (l : NamedCurricula) : Type 0 where
  pub ids_are : l.ids ≡ curriculum_ids_of (curricula_seen l.rows.items)
  pub marked : AreMarked count l.rows.items
