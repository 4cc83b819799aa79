-- The items that are groups: the lectures of a course without seats, and the isolated lectures of a curriculum. Each begins with the sum of its
-- lectures, and its place in the list is by that sum.
use Rattle.std.specs.Prelude.{ℕ, ◌==◌, ◌&&◌, List, [], ◌∷◌, ◌++◌, filter, flat_map, sum_by, codes, if◌then◌else◌}
use Rattle.tt_text.specs.Pieces.{Text, Number}
use Rattle.tt_instance.specs.Problem.{Problem}
use Rattle.tt_instance.specs.Cells.{all_courses, all_curricula, is_of}
use Rattle.tt_instance.specs.Courses.{students, capacity, in_curriculum, excess}
use Rattle.tt_instance.specs.declared.cell.Cell.{Cell}
use Rattle.tt_rules.specs.Soft.{is_isolated, compactness_cost}
use Rattle.tt_page_text.specs.Markup.{markup}
use Rattle.tt_page_text.specs.Labelled.{Labelled}
use Rattle.tt_page_text.specs.Links.{week_link, when_link}
use Rattle.tt_table.specs.declared.kind.Kind.TheVariants.{Room, Curriculum}
use Rattle.tt_page_lists.specs.Items.{item, course_and_teacher, course_item, entry_items}
use Rattle.tt_page_lists.specs.declared.rule.Rule.{Rule}
use Rattle.tt_page_lists.specs.declared.rule.Rule.TheVariants as rule

-- ---- lectures of a course with students without a seat

-- The students of a course without a seat, in all its lectures.
abbrev pub seats_cost : Problem → List Cell → ℕ → ℕ
seats_cost p t c = sum_by (λ e. excess p e.course e.room) (filter (is_of c) t)

-- The beginning of a lecture's line: how many of its students have no seat.
unfoldable pub crowded_head : Problem → Cell → List ℕ
crowded_head p e = markup (Text (codes "<li>") ∷ Number (excess p e.course e.room) ∷ Text (codes " ") ∷ [])

-- The end of a lecture's line: how many seats its room has.
unfoldable pub crowded_end : Problem → Cell → List ℕ
crowded_end p e = markup (Text (codes ", ") ∷ Number (capacity p e.room) ∷ Text (codes " seats</li>\n") ∷ [])

-- A lecture, if some student has no seat: how many, when, and in which room.
unfoldable pub crowded_line : Problem → Labelled → Cell → List ℕ
crowded_line p labels e =
    if excess p e.course e.room == 0 then []
    else crowded_head p e ++ when_link labels Room e.room e ++ codes ", in " ++ week_link p Room e.room ++ crowded_end p e

-- How many students a course has, and the beginning of the list of its lectures.
unfoldable pub students_detail : Problem → ℕ → List ℕ
students_detail p c = markup (Text (codes ", ") ∷ Number (students p c) ∷ Text (codes " students\n<ul>\n") ∷ [])

-- The course with its teacher and its number of students, and a line for each lecture in which some student has no seat.
unfoldable pub seats_detail : Problem → Labelled → ℕ → List Cell → List ℕ
seats_detail p labels c es = course_and_teacher p c ++ students_detail p c ++ flat_map (crowded_line p labels) es ++ codes "</ul>\n"

-- The item of a course in the list of room capacity, if some student has no seat in one of its lectures.
unfoldable pub seats_item : Problem → List Cell → Labelled → ℕ → List ℕ
seats_item p t labels c = item (seats_cost p t c) (seats_detail p labels c (filter (is_of c) t))

-- ---- isolated lectures of a curriculum

-- A lecture: when, its course and teacher, and its room.
unfoldable pub isolated_line : Problem → Labelled → ℕ → Cell → List ℕ
isolated_line p labels q e =
    codes "<li>" ++ when_link labels Curriculum q e ++ codes ", " ++ course_and_teacher p e.course ++ codes ", in " ++ week_link p Room e.room
    ++ codes "</li>\n"

-- An entry, if it is an isolated one of the curriculum.
unfoldable pub isolated_item : Problem → List Cell → Labelled → ℕ → Cell → List ℕ
isolated_item p t labels q e = if in_curriculum p q e.course && is_isolated p t q e then isolated_line p labels q e else []

-- The curriculum, and a line for each of its isolated lectures.
unfoldable pub isolated_detail : Problem → List Cell → Labelled → ℕ → List ℕ
isolated_detail p t labels q = week_link p Curriculum q ++ codes "\n<ul>\n" ++ flat_map (isolated_item p t labels q) t ++ codes "</ul>\n"

-- The item of a curriculum in the list of compactness, if it has isolated lectures.
unfoldable pub curriculum_item : Problem → List Cell → Labelled → ℕ → List ℕ
curriculum_item p t labels q = item (compactness_cost p t q) (isolated_detail p t labels q)

-- ---- all items of a list

-- All items of the list of a rule, in the order of the courses, the curricula or the entries.
unfoldable pub items_text : Problem → List Cell → Labelled → Rule → List ℕ
items_text p t labels rule.Lectures = flat_map (course_item p t rule.Lectures) (all_courses p)
items_text p t labels rule.WorkingDays = flat_map (course_item p t rule.WorkingDays) (all_courses p)
items_text p t labels rule.RoomStability = flat_map (course_item p t rule.RoomStability) (all_courses p)
items_text p t labels rule.RoomCapacity = flat_map (seats_item p t labels) (all_courses p)
items_text p t labels rule.Compactness = flat_map (curriculum_item p t labels) (all_curricula p)
items_text p t labels rule.Conflicts = entry_items p labels rule.Conflicts t
items_text p t labels rule.RoomOccupancy = entry_items p labels rule.RoomOccupancy t
items_text p t labels rule.Availability = entry_items p labels rule.Availability t
