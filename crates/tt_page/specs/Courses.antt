-- The row of a course: it shows all that belongs to no single cell.
use Rattle.std.specs.Prelude.{ℕ, ◌-◌, List, [], ◌∷◌, ◌++◌, length, flat_map, codes, if◌then◌else◌}
use Rattle.tt_text.specs.Pieces.{Text, Number}
use Rattle.tt_instance.specs.Problem.{Problem}
use Rattle.tt_instance.specs.Cells.{all_courses, all_rooms}
use Rattle.tt_instance.specs.Courses.{lectures, min_days, students}
use Rattle.tt_instance.specs.declared.cell.Cell.{Cell}
use Rattle.tt_rules.specs.Hard.{entries_of, lectures_off}
use Rattle.tt_rules.specs.Soft.{days_of, stability_cost}
use Rattle.tt_page_text.specs.Shown.{shown}
use Rattle.tt_page_text.specs.Markup.{markup, counted}
use Rattle.tt_page_text.specs.Kinds.{course_name, teacher_of}
use Rattle.tt_page_text.specs.Counts.{is_taught_in}
use Rattle.tt_page_text.specs.Links.{week_link}
use Rattle.tt_table.specs.declared.kind.Kind.TheVariants.{Room, Teacher}

-- A room, if the course is taught in it.
unfoldable pub room_text : Problem → List Cell → ℕ → ℕ → List ℕ
room_text p t c r = if is_taught_in t c r then codes " " ++ week_link p Room r else []

-- The rooms of a course, in the order of the instance.
unfoldable pub rooms_text : Problem → List Cell → ℕ → List ℕ
rooms_text p t c = flat_map (room_text p t c) (all_rooms p)

-- What is wrong with all lectures of a course together.
unfoldable pub course_marks : Problem → List Cell → ℕ → List ℕ
course_marks p t c =
    counted (codes " <strong>lectures: ") (lectures_off p t c) (codes "</strong>")
    ++ counted (codes " <mark>missing days: ") (min_days p c - days_of p t c) (codes "</mark>")
    ++ counted (codes " <mark>other rooms: ") (stability_cost p t c) (codes "</mark>")

-- The numbers of a course: students, lectures needed and placed, days needed and reached.
unfoldable pub course_numbers : Problem → List Cell → ℕ → List ℕ
course_numbers p t c = markup (
    Text (codes "</td>\n<td>") ∷ Number (students p c) ∷ Text (codes "</td>\n<td>") ∷ Number (lectures p c)
    ∷ Text (codes "</td>\n<td>") ∷ Number (entries_of t c) ∷ Text (codes "</td>\n<td>") ∷ Number (min_days p c)
    ∷ Text (codes "</td>\n<td>") ∷ Number (days_of p t c) ∷ Text (codes "</td>\n<td>") ∷ [])

-- The beginning of a course's row, up to the cell of its teacher: the name of the course.
unfoldable pub course_head : Problem → ℕ → List ℕ
course_head p c = markup (
    Text (codes "<tr id=\"course") ∷ Number c ∷ Text (codes "\">\n<th scope=\"row\">") ∷ Text (shown (course_name p c)) ∷ Text (codes "</th>\n<td>") ∷ [])

-- The row of a course: its name, teacher, numbers, rooms and marks.
unfoldable pub course_row : Problem → List Cell → ℕ → List ℕ
course_row p t c =
    course_head p c ++ week_link p Teacher (teacher_of p c) ++ course_numbers p t c
    ++ rooms_text p t c ++ codes "</td>\n<td>" ++ course_marks p t c ++ codes "</td>\n</tr>\n"

-- The heads of the columns, in the order of the cells of a row.
unfoldable pub courses_head : List ℕ
courses_head = codes "</small></h2></summary>\n<div class=\"list\">\n<table>\n<caption>Courses</caption>\n<thead>\n<tr>\n<th scope=\"col\">Course</th>\n<th scope=\"col\">Teacher</th>\n<th scope=\"col\">Students</th>\n<th scope=\"col\">Lectures</th>\n<th scope=\"col\">Placed</th>\n<th scope=\"col\">Least days</th>\n<th scope=\"col\">Days</th>\n<th scope=\"col\">Rooms</th>\n<th scope=\"col\">Marks</th>\n</tr>\n</thead>\n<tbody>\n"

-- The head of the section of courses: their number, and the heads of the columns.
unfoldable pub courses_head_text : ℕ → List ℕ
courses_head_text n = markup (Text (codes "<details open id=\"courses\">\n<summary><h2>Courses <small>") ∷ Number n ∷ Text courses_head ∷ [])

-- The section of courses: a row for each course, in the order of the instance.
unfoldable pub courses_text : Problem → List Cell → List ℕ
courses_text p t =
    courses_head_text (length p.courses)
    ++ flat_map (course_row p t) (all_courses p) ++ codes "</tbody>\n</table>\n</div>\n</details>\n"
