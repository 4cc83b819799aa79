-- An instance of curriculum-based course timetabling: the contents of a `.ctt` file of the Second International Timetabling
-- Competition (track 3, technical report of Di Gaspero, McCollum and Schaerf, section 3).
use Rattle.std.specs.Prelude.{ℕ, List}

-- A course: its name, its teacher, and its numbers of lectures, of minimum working days and of students.
pub record Course : Type 0 where
  pub id : List ℕ
  pub teacher : List ℕ
  pub lectures : ℕ
  pub min_days : ℕ
  pub students : ℕ

-- A room: its name and its number of seats.
pub record Room : Type 0 where
  pub id : List ℕ
  pub capacity : ℕ

-- A curriculum. Its members are numbers of courses, each once, in the order of their first mention.
pub record Curriculum : Type 0 where
  pub id : List ℕ
  pub members : List ℕ

-- An unavailability: a course that must not have a lecture in a period of a day.
pub record Unavailability : Type 0 where
  pub course : ℕ
  pub day : ℕ
  pub period : ℕ

-- An instance; courses, rooms, curricula, days and periods of a day are numbered from 0.
pub record Problem : Type 0 where
  pub name : List (List ℕ)
  pub days : ℕ
  pub periods : ℕ
  pub courses : List Course
  pub rooms : List Room
  pub curricula : List Curriculum
  pub unavailabilities : List Unavailability
