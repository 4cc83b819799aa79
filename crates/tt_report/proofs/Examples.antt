-- Reports of a small timetable.
use Rattle.std.proofs.Common.{◌≡◌, List, [], ◌∷◌, refl, codes}
use Rattle.tt_text.specs.Pieces.{Text, Number}
use Rattle.tt_instance.specs.declared.cell.Cell.{Cell}
use Rattle.tt_instance.proofs.Examples.{at, mini}
use Rattle.tt_report.specs.Names.{letter_text, shown}
use Rattle.tt_report.specs.Reports.{report_lines}
use Rattle.tt_table.specs.declared.kind.Kind.TheVariants.{Room, Teacher, Curriculum}

abbrev table : List Cell
table = at 0 0 0 0 ∷ at 1 0 0 1 ∷ []

by_room : report_lines mini table Room
    ≡ (Text (codes "room") ∷ Text (shown (codes "R")) ∷ [])
    ∷ (Number 0 ∷ Number 0 ∷ Text (shown (codes "a")) ∷ []) ∷ (Number 0 ∷ Number 1 ∷ Text (shown (codes "b")) ∷ []) ∷
    (Number 0 ∷ Number 2 ∷ []) ∷ []
by_room = refl

by_teacher : report_lines mini table Teacher
    ≡ (Text (codes "teacher") ∷ Text (shown (codes "t1")) ∷ [])
    ∷ (Number 0 ∷ Number 0 ∷ Text (shown (codes "a")) ∷ Text (shown (codes "R")) ∷ []) ∷ (Number 0 ∷ Number 1 ∷ []) ∷
    (Number 0 ∷ Number 2 ∷ [])
    ∷ (Text (codes "teacher") ∷ Text (shown (codes "t2")) ∷ [])
    ∷ (Number 0 ∷ Number 0 ∷ []) ∷ (Number 0 ∷ Number 1 ∷ Text (shown (codes "b")) ∷ Text (shown (codes "R")) ∷ []) ∷
    (Number 0 ∷ Number 2 ∷ []) ∷ []
by_teacher = refl

by_curriculum : report_lines mini table Curriculum
    ≡ (Text (codes "curriculum") ∷ Text (shown (codes "q")) ∷ [])
    ∷ (Number 0 ∷ Number 0 ∷ Text (shown (codes "a")) ∷ Text (shown (codes "R")) ∷ []) ∷
    (Number 0 ∷ Number 1 ∷ Text (shown (codes "b")) ∷ Text (shown (codes "R")) ∷ []) ∷ (Number 0 ∷ Number 2 ∷ []) ∷ []
by_curriculum = refl

-- the letters that begin a command of a terminal, in ASCII and in UTF-8
escape_is_shown : letter_text 27 ≡ codes "?"
escape_is_shown = refl

second_escape_is_shown : letter_text 155 ≡ codes "?"
second_escape_is_shown = refl
