-- What the tables that go with the rows of an instance contain.
use Rattle.std.specs.Prelude.{◌≡◌, ℕ, ◌+◌, ◌*◌, ◌≤◌, ◌<◌, ◌==◌, nat_lt, Bool, false, ◌&&◌, List, [], length, map, Some, slice_index_or, All}
use Rattle.std.specs.List.{list_any}
use Rattle.tt_list_laws.specs.Words.{has_number}
use Rattle.tt_text.specs.Texts.{index_of_name, distinct_names}
use Rattle.tt_instance.specs.declared.rows.CourseList.{CourseList}
use Rattle.tt_instance.specs.declared.rows.CourseRow.{CourseRow}
use Rattle.tt_instance.specs.declared.rows.MemberList.{MemberList}
use Rattle.tt_instance.specs.declared.rows.CurriculumRow.{CurriculumRow}
use Rattle.tt_instance.specs.declared.rows.UnavailabilityList.{UnavailabilityList}
use Rattle.tt_instance.specs.declared.parts.Parts.{Parts}
use Rattle.tt_instance.specs.Problem.{Course, Unavailability, Problem}
use Rattle.tt_instance.specs.Courses.{conflict}
use Rattle.tt_instance.specs.Seen.{courses_seen, unavailabilities_seen}

-- The teachers of courses, each once, in the order of their first mention.
abbrev pub teachers_of : List Course → List (List ℕ)
teachers_of cs = distinct_names (map (λ c. c.teacher) cs)

-- The row has the number of its course's teacher.
abbrev pub IsTeacher : List (List ℕ) → CourseRow → Type 0
IsTeacher names r = index_of_name names r.teacher_name.now ≡ Some r.teacher

-- The list has each teacher once in the order of first mention, at most as many as rows, and each row has the number of its teacher.
pub record IsIndexed (l : CourseList) : Type 0 where
  pub teachers_are : l.teachers ≡ teachers_of (courses_seen l.rows.items)
  pub at_most : length l.teachers ≤ length l.rows.items
  pub numbers : All (IsTeacher l.teachers) l.rows.items

-- The list has a mark for each course, and the marks say which courses are members.
pub record IsMarked (count : ℕ) (l : MemberList) : Type 0 where
  pub len : length l.marks ≡ count
  pub agrees : (c : ℕ) → slice_index_or l.marks c false ≡ has_number l.courses.items c

-- Each row has marks for `count` courses that say which are its members.
abbrev pub AreMarked : ℕ → List CurriculumRow → Type 0
AreMarked count rows = All (λ r. IsMarked count r.members) rows

-- A list of unavailabilities has this one.
abbrev pub has_unavailability : List Unavailability → ℕ → ℕ → ℕ → Bool
has_unavailability unavailabilities c d s = list_any (λ b. (b.course == c) && (b.day == d) && (b.period == s)) unavailabilities

-- The mark of a period, in marks that have 64 places for each day.
abbrev pub is_marked_at : List (List Bool) → ℕ → ℕ → ℕ → Bool
is_marked_at rows c d s = nat_lt s 64 && slice_index_or (slice_index_or rows c []) (d * 64 + s) false

-- The list has marks for each course and each day, and they say which periods are unavailable.
pub record IsBarred (count days : ℕ) (l : UnavailabilityList) : Type 0 where
  pub len : length l.marks.items ≡ count
  pub lens : All (λ m. length m ≡ days * 64) l.marks.items
  pub agrees : (c d s : ℕ) → is_marked_at l.marks.items c d s ≡ has_unavailability (unavailabilities_seen l.rows.items) c d s

-- The unavailability is one of so many courses, on one of so many days, in a period that has a mark.
abbrev pub IsInWeek : ℕ → ℕ → Unavailability → Type 0
IsInWeek count days b = (b.course < count) × (b.day < days) × (b.period < 64)

-- The tables of all parts are right.
pub record IsIndexedParts (a : Parts) : Type 0 where
  pub courses : IsIndexed a.courses
  pub curricula : AreMarked (length a.courses.rows.items) a.curricula.items
  pub unavailabilities : IsBarred (length a.courses.rows.items) a.days a.unavailabilities

-- The mark of a number in a row of a table; false if the row or the number is out of range.
abbrev pub mark_at : List (List Bool) → ℕ → ℕ → Bool
mark_at rows a b = slice_index_or (slice_index_or rows a []) b false

-- The length of each row is the number of rows.
abbrev pub IsSquare : List (List Bool) → Type 0
IsSquare rows = All (λ row. length row ≡ length rows) rows

-- The table has a row of marks for each course, which says with which courses it conflicts.
pub record IsExcluding (p : Problem) (rows : List (List Bool)) : Type 0 where
  pub len : length rows ≡ length p.courses
  pub square : IsSquare rows
  pub agrees : (a b : ℕ) → mark_at rows a b ≡ conflict p a b
