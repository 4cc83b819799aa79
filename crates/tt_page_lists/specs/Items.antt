-- The items of the lists, except those in groups. Each begins with the number that it adds to its count, and its place in the list is by that number.
use Rattle.std.specs.Prelude.{ℕ, ◌+◌, ◌-◌, ◌==◌, Bool, ◌&&◌, List, [], ◌∷◌, ◌++◌, length, filter, codes, Option, Some, None, if◌then◌else◌}
use Rattle.tt_text.specs.Pieces.{Text, Number}
use Rattle.tt_instance.specs.Problem.{Problem}
use Rattle.tt_instance.specs.Cells.{slot_of, is_at}
use Rattle.tt_instance.specs.Courses.{lectures, min_days, conflict, unavailable}
use Rattle.tt_instance.specs.declared.cell.Cell.{Cell}
use Rattle.tt_rules.specs.Hard.{entries_of, periods_of, lectures_off, collide}
use Rattle.tt_rules.specs.Soft.{days_of, days_cost, stability_cost}
use Rattle.tt_page_text.specs.Markup.{markup}
use Rattle.tt_page_text.specs.Labelled.{Labelled}
use Rattle.tt_page_text.specs.Labels.{when_text}
use Rattle.tt_page_text.specs.Kinds.{teacher_of}
use Rattle.tt_page_text.specs.Links.{course_link, week_link, cell_link}
use Rattle.tt_table.specs.declared.kind.Kind.TheVariants.{Room, Teacher}
use Rattle.tt_page_lists.specs.declared.rule.Rule.{Rule}
use Rattle.tt_page_lists.specs.declared.rule.Rule.TheVariants as rule

-- The number that an item adds; an item that adds more comes before one that adds less.
unfoldable pub item_head : ℕ → List ℕ
item_head n = markup (Text (codes "<li style=\"order:-") ∷ Number n ∷ Text (codes "\"><b>") ∷ Number n ∷ Text (codes "</b> ") ∷ [])

-- The end of an item.
unfoldable pub item_end : List ℕ
item_end = codes "</li>\n"

-- An item, if it adds something.
abbrev pub item : ℕ → List ℕ → List ℕ
item n text = if n == 0 then [] else item_head n ++ text ++ item_end

-- ---- items of a course

-- A course and its teacher.
unfoldable pub course_and_teacher : Problem → ℕ → List ℕ
course_and_teacher p c = course_link p c ++ codes ", " ++ week_link p Teacher (teacher_of p c)

-- The lectures of a course, needed and placed, and the number of periods in which they are.
unfoldable pub lectures_detail : Problem → List Cell → ℕ → List ℕ
lectures_detail p t c = markup (
    Text (codes ", lectures ") ∷ Number (lectures p c) ∷ Text (codes ", placed ") ∷ Number (entries_of t c)
    ∷ Text (codes ", periods used ") ∷ Number (periods_of p t c) ∷ [])

-- The number of days on which a course is taught, and the number of days that it needs.
unfoldable pub days_detail : Problem → List Cell → ℕ → List ℕ
days_detail p t c = markup (
    Text (codes ", on ") ∷ Number (days_of p t c) ∷ Text (codes " of ") ∷ Number (min_days p c) ∷ Text (codes " days") ∷ [])

-- The number of rooms in which a course is taught, or 1 if it is taught in none.
unfoldable pub rooms_detail : Problem → List Cell → ℕ → List ℕ
rooms_detail p t c = markup (Text (codes ", in ") ∷ Number (stability_cost p t c + 1) ∷ Text (codes " rooms") ∷ [])

-- The text about a course.
unfoldable pub course_detail : Problem → List Cell → Rule → ℕ → List ℕ
course_detail p t rule.Lectures c = lectures_detail p t c
course_detail p t rule.WorkingDays c = days_detail p t c
course_detail p t rule.RoomStability c = rooms_detail p t c
course_detail p t _ c = []

-- The number that a course adds to a count.
abbrev pub course_adds : Problem → List Cell → Rule → ℕ → ℕ
course_adds p t rule.Lectures c = lectures_off p t c
course_adds p t rule.WorkingDays c = days_cost p t c
course_adds p t rule.RoomStability c = stability_cost p t c
course_adds p t _ c = 0

-- The item of a course in the list of a rule, if the course adds something to the count.
unfoldable pub course_item : Problem → List Cell → Rule → ℕ → List ℕ
course_item p t r c = item (course_adds p t r c) (course_and_teacher p c ++ course_detail p t r c)

-- ---- items of an entry

-- A lecture with its teacher: its course leads to its cell in the room's week.
unfoldable pub entry_and_teacher : Problem → Cell → List ℕ
entry_and_teacher p e = cell_link p Room e.room e ++ codes ", " ++ week_link p Teacher (teacher_of p e.course)

-- When and where it is.
unfoldable pub place_text : Problem → Labelled → Cell → List ℕ
place_text p labels e = codes ", " ++ when_text labels e.day e.period ++ codes ", in " ++ week_link p Room e.room

-- A lecture, as a link to its cell in the week of its teacher, then the teacher, the day and the period.
unfoldable pub unavailable_detail : Problem → Labelled → Cell → List ℕ
unavailable_detail p labels e =
    cell_link p Teacher (teacher_of p e.course) e ++ codes ", " ++ week_link p Teacher (teacher_of p e.course)
    ++ codes ", " ++ when_text labels e.day e.period

-- The item of an entry, if its period is unavailable for its course. It adds 1.
unfoldable pub unavailable_item : Problem → Labelled → Cell → List ℕ
unavailable_item p labels e =
    if unavailable p e.course e.day e.period then item_head 1 ++ unavailable_detail p labels e ++ item_end else []

-- Whether two entries of a period break a rule together: their courses conflict, or they have the same room.
abbrev pub is_odd : Problem → Rule → Cell → Cell → Bool
is_odd p rule.Conflicts e x = conflict p e.course x.course
is_odd p _ e x = x.room == e.room

-- Whether an entry and a later one break a rule together: a pair is reported with its earlier entry.
abbrev pub at_odds : Problem → Rule → Cell → Cell → Bool
at_odds p rule.Conflicts e x = collide p e x
at_odds p r e x = is_at (slot_of e) x && is_odd p r e x

-- The number that an entry adds if this many later ones break the rule together with it: each pair of a conflict, and each entry of a room and period
-- except the last.
abbrev pub odds_count : Rule → ℕ → ℕ
odds_count rule.Conflicts n = n
odds_count _ n = 1

-- How many there are besides the first.
unfoldable pub more_text : ℕ → List ℕ
more_text n = if n == 0 then [] else markup (Text (codes " and ") ∷ Number n ∷ Text (codes " more") ∷ [])

-- An entry that breaks the rule together with another one and with this many more.
unfoldable pub pair_text : Problem → Labelled → Cell → Cell → ℕ → List ℕ
pair_text p labels e x more =
    entry_and_teacher p e ++ place_text p labels e ++ codes ", with " ++ entry_and_teacher p x ++ more_text more ++ item_end

-- An entry, and the later ones that break the rule together with it.
unfoldable pub odds_item : Problem → Labelled → Rule → Cell → List Cell → List ℕ
odds_item p labels r e [] = []
odds_item p labels r e (x ∷ xs) = item_head (odds_count r (length xs + 1)) ++ pair_text p labels e x (length xs)

-- The item of an entry, from the first of the later ones that break the rule together with it, and how many they are: the form that the
-- program uses.
unfoldable pub odds_text : Problem → Labelled → Rule → Cell → Option Cell → ℕ → List ℕ
odds_text p labels r e None n = []
odds_text p labels r e (Some x) n = item_head (odds_count r n) ++ pair_text p labels e x (n - 1)

-- The item of an entry, if some later entry breaks the rule together with it.
unfoldable pub pairs_item : Problem → Labelled → Rule → Cell → List Cell → List ℕ
pairs_item p labels r e later = odds_item p labels r e (filter (at_odds p r e) later)

-- The item of an entry, from the entries after it.
unfoldable pub entry_item : Problem → Labelled → Rule → Cell → List Cell → List ℕ
entry_item p labels rule.Availability e later = unavailable_item p labels e
entry_item p labels r e later = pairs_item p labels r e later

-- The items of all entries of a list, in its order.
unfoldable pub entry_items : Problem → Labelled → Rule → List Cell → List ℕ
entry_items p labels r [] = []
entry_items p labels r (e ∷ es) = entry_item p labels r e es ++ entry_items p labels r es
