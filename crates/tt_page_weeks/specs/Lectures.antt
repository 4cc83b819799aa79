-- A lecture in a week: its colour, its course, its place or its teacher, and its marks.
use Rattle.std.specs.Prelude.{ℕ, ◌%◌, Bool, List, [], ◌∷◌, ◌++◌, codes, Option, Some, None, if◌then◌else◌}
use Rattle.tt_text.specs.Pieces.{Text, Number}
use Rattle.tt_instance.specs.Problem.{Problem}
use Rattle.tt_instance.specs.Courses.{unavailable, excess}
use Rattle.tt_instance.specs.declared.cell.Cell.{Cell}
use Rattle.tt_rules.specs.Soft.{is_isolated}
use Rattle.tt_page_text.specs.Shown.{shown}
use Rattle.tt_page_text.specs.Labelled.{Labelled}
use Rattle.tt_page_text.specs.Labels.{when_text}
use Rattle.tt_page_text.specs.Markup.{markup, counted}
use Rattle.tt_page_text.specs.Kinds.{course_name, teacher_of, first_curriculum}
use Rattle.tt_page_text.specs.Links.{week_link}
use Rattle.tt_page_weeks.specs.Marks.{in_conflict, room_taken, repeated, in_other_room}
use Rattle.tt_page_weeks.specs.declared.hues.TheConstants.{HUES}
use Rattle.tt_table.specs.Kinds.{name_of}
use Rattle.tt_table.specs.declared.kind.Kind.{Kind}
use Rattle.tt_table.specs.declared.kind.Kind.TheVariants.{Room, Teacher, Curriculum}

-- The name of a room, a teacher or a curriculum where there are no links.
unfoldable pub plain_week : Problem → Kind → ℕ → List ℕ
plain_week p kind n = markup (Text (codes "<bdi>") ∷ Text (shown (name_of p kind n)) ∷ Text (codes "</bdi>") ∷ [])

-- The name of a room, a teacher or a curriculum: the link to its week, if there are links.
abbrev pub week_text : Problem → Bool → Kind → ℕ → List ℕ
week_text p linked kind n = if linked then week_link p kind n else plain_week p kind n

-- The part of a lecture that its week doesn't determine: a room's week shows teachers, a teacher's shows rooms, a curriculum's both.
unfoldable pub further_text : Problem → Bool → Kind → Cell → List ℕ
further_text p linked Room e = week_text p linked Teacher (teacher_of p e.course)
further_text p linked Teacher e = week_text p linked Room e.room
further_text p linked Curriculum e = week_text p linked Room e.room ++ codes " " ++ week_text p linked Teacher (teacher_of p e.course)

-- A mark, if it applies.
abbrev pub mark : Bool → List ℕ → List ℕ
mark holds text = if holds then text else []

-- The mark `isolated`: it is about a curriculum and appears in its own week.
unfoldable pub isolated_mark : Problem → List Cell → Kind → ℕ → Cell → List ℕ
isolated_mark p t Curriculum q e = mark (is_isolated p t q e) (codes " <mark>isolated</mark>")
isolated_mark p t _ n e = []

-- The marks of a lecture in a week: those of hard rules, then those of costs.
unfoldable pub marks_text : Problem → List Cell → Kind → ℕ → Cell → List ℕ
marks_text p t kind n e =
    mark (in_conflict p t e) (codes " <strong>conflict</strong>")
    ++ mark (unavailable p e.course e.day e.period) (codes " <strong>unavailable</strong>")
    ++ mark (room_taken t e) (codes " <strong>room taken</strong>")
    ++ mark (repeated t e) (codes " <strong>repeated</strong>")
    ++ isolated_mark p t kind n e
    ++ counted (codes " <mark>no seat: ") (excess p e.course e.room) (codes "</mark>")
    ++ mark (in_other_room t e) (codes " <mark>other room</mark>")

-- The class of a curriculum's hue, or nothing if there is no curriculum. The curricula have the hues in turn.
unfoldable pub hue_class : Option ℕ → List ℕ
hue_class None = []
hue_class (Some q) = markup (Text (codes " hue") ∷ Number (q % HUES) ∷ [])

-- The beginning of a lecture: its colour, which is that of the first curriculum that has its course.
unfoldable pub lecture_head : Problem → ℕ → List ℕ
lecture_head p c = codes "<div class=\"lecture" ++ hue_class (first_curriculum p c)

-- The day and the period of a lecture.
unfoldable pub lecture_when : Labelled → Cell → List ℕ
lecture_when labels e = codes "\"><span class=\"when\">" ++ when_text labels e.day e.period ++ codes "</span> "

-- The course of a lecture where there are no links.
unfoldable pub plain_course : Problem → ℕ → List ℕ
plain_course p c = markup (Text (codes "<bdi class=\"course\">") ∷ Text (shown (course_name p c)) ∷ Text (codes "</bdi> ") ∷ [])

-- The course of a lecture, as a link to its row.
unfoldable pub linked_course : Problem → ℕ → List ℕ
linked_course p c = markup (
    Text (codes "<a class=\"course\" href=\"#course") ∷ Number c ∷ Text (codes "\">") ∷ Text (shown (course_name p c)) ∷ Text (codes "</a> ") ∷ [])

-- The course of a lecture: the link to its row, if there are links.
abbrev pub lecture_course : Problem → Bool → ℕ → List ℕ
lecture_course p linked c = if linked then linked_course p c else plain_course p c

-- A lecture in a week, with links or without: its colour, its day and period, its course, its room or teacher or both, and its marks.
unfoldable pub lecture_text : Problem → List Cell → Labelled → Bool → Kind → ℕ → Cell → List ℕ
lecture_text p t labels linked kind n e =
    lecture_head p e.course ++ lecture_when labels e ++ lecture_course p linked e.course ++ further_text p linked kind e ++ marks_text p t kind n e ++ codes "</div>\n"
