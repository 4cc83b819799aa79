-- The reason why every timetable breaks a hard rule, where a broken rule is listed.
use Rattle.std.specs.Prelude.{ℕ, ◌==◌, List, [], ◌++◌, length, flat_map, codes, if◌then◌else◌}
use Rattle.tt_instance.specs.Problem.{Problem}
use Rattle.tt_page_text.specs.Links.{course_link}
use Rattle.tt_page_lists.specs.Rules.{is_hard}
use Rattle.tt_page_lists.specs.declared.rule.Rule.{Rule}

-- A space and the link to the row of a course.
unfoldable pub next_course : Problem → ℕ → List ℕ
next_course p c = codes " " ++ course_link p c

-- The line with the courses for which every timetable breaks a hard rule; nothing if there are none.
unfoldable pub courses_line : Problem → List ℕ → List ℕ
courses_line p cs =
    if length cs == 0 then []
    else codes "<p class=\"infeasible\">every timetable breaks a hard rule for these courses (proved):" ++ flat_map (next_course p) cs ++ codes "</p>\n"

-- The line below the head of a rule's list: a hard rule has those courses, a soft rule has none.
unfoldable pub reason_text : Problem → List ℕ → Rule → List ℕ
reason_text p cs r = if is_hard r then courses_line p cs else []
