-- The text of a page.
use Rattle.std.specs.Prelude.{ℕ, true, List, ◌++◌, codes}
use Rattle.tt_instance.specs.Problem.{Problem}
use Rattle.tt_instance.specs.declared.cell.Cell.{Cell}
use Rattle.tt_page_text.specs.Labelled.{Labelled}
use Rattle.tt_changes.specs.declared.change.Changes.{Changes}
use Rattle.tt_page.specs.Changed.{changed_head, changed_counts}
use Rattle.tt_page.specs.Heading.{head_text, header_text, legend_text}
use Rattle.tt_page_lists.specs.Lists.{hard_table, cost_table, lists_text}
use Rattle.tt_page_weeks.specs.Grids.{section_text}
use Rattle.tt_page_weeks.specs.Days.{days_text}
use Rattle.tt_page.specs.Courses.{courses_text}
use Rattle.tt_page.specs.Proofs.{courses_of}
use Rattle.tt_page.specs.Sheets.{sheet_text}
use Rattle.tt_page.specs.declared.proved.Proved.{Proved}
use Rattle.tt_page.specs.declared.sheet.Shown.{Shown}
use Rattle.tt_page.specs.declared.sheet.Shown.TheVariants.{Whole, Changed, Only}
use Rattle.tt_table.specs.declared.kind.Kind.TheVariants.{Room, Teacher, Curriculum}

-- The counts of the timetable, and a list for each count above 0: those of hard rules name the courses of the reason, if there is one.
unfoldable pub counts_text : Problem → List Cell → Labelled → Proved → List ℕ
counts_text p t labels proved = header_text p t proved ++ hard_table p t ++ cost_table p t ++ legend_text ++ lists_text p t labels (courses_of proved)

-- A grid for each room, teacher and curriculum, a table for each day, and a row for each course.
unfoldable pub weeks_text : Problem → List Cell → Labelled → List ℕ
weeks_text p t labels =
    section_text p t labels true Room ++ section_text p t labels true Teacher ++ section_text p t labels true Curriculum
    ++ days_text p t labels true ++ courses_text p t

-- One page of HTML, with its style in it: for a timetable, names of days and periods, and what was proved.
unfoldable pub page_text : Problem → List Cell → Labelled → Proved → List ℕ → List ℕ
page_text p t labels proved style = head_text p style ++ counts_text p t labels proved ++ weeks_text p t labels ++ codes "</main>\n</body>\n</html>\n"

-- The page that says in addition what changed since an older timetable: with names of days and periods also for the marks.
unfoldable pub changed_text : Problem → List Cell → Labelled → Labelled → Proved → Changes → List ℕ → List ℕ
changed_text p t labels names proved c style =
    changed_head p names c style ++ changed_counts p t labels proved c ++ weeks_text p t labels ++ codes "</main>\n</body>\n</html>\n"

-- The text for what is shown: the whole page, the page with what changed, or a sheet.
abbrev pub shown_text : Problem → List Cell → Labelled → Shown → List ℕ → List ℕ
shown_text p t labels (Whole proved) style = page_text p t labels proved.now style
shown_text p t labels (Changed proved moves) style = changed_text p t labels moves.names.now proved.now moves.changes.now style
shown_text p t labels (Only sheet) style = sheet_text p t labels sheet style
