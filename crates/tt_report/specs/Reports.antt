-- The lines of a weekly report: a block for each room, teacher or curriculum, with a head line and a line for each period.
use Rattle.std.specs.Prelude.{ℕ, Bool, ◌&&◌, List, [], ◌∷◌, map, flat_map, filter, codes, slice_get, slice_index_or, Some}
use Rattle.tt_text.specs.Pieces.{Piece, Text, Number}
use Rattle.tt_text.specs.Lines.{lines_text}
use Rattle.tt_text.specs.Texts.{is_same_text}
use Rattle.tt_instance.specs.Problem.{Problem}
use Rattle.tt_instance.specs.Cells.{all_rooms, all_curricula, all_slots, is_in, is_at}
use Rattle.tt_instance.specs.Courses.{no_course, no_room, no_curriculum, course_teachers, teachers, in_curriculum}
use Rattle.tt_instance.specs.declared.cell.Cell.{Cell}
use Rattle.tt_instance.specs.declared.cell.Slot.{Slot}
use Rattle.tt_table.specs.declared.kind.Kind.{Kind as By}
use Rattle.tt_table.specs.declared.kind.Kind.TheVariants.{Room, Teacher, Curriculum}
use Rattle.tt_report.specs.Names.{shown}

-- The name of an entry's course.
abbrev pub course_text : Problem → Cell → Piece
course_text p e = Text (shown (slice_index_or p.courses e.course no_course).id)

-- The name of an entry's room.
abbrev pub room_text : Problem → Cell → Piece
room_text p e = Text (shown (slice_index_or p.rooms e.room no_room).id)

-- Day and period, and the pieces shown for each entry of the period that belongs to the block, in list order.
abbrev pub slot_line : (Cell → List Piece) → (Cell → Bool) → List Cell → Slot → List Piece
slot_line shown belongs t s = Number s.day ∷ Number s.period ∷ flat_map shown (filter (λ e. belongs e && is_at s e) t)

-- The lines of a block: its head line, and a line for each period of the week.
abbrev pub block : Problem → List Piece → (Cell → List Piece) → (Cell → Bool) → List Cell → List (List Piece)
block p head shown belongs t = head ∷ map (slot_line shown belongs t) (all_slots p)

-- The names of an entry's course and of its room.
abbrev pub course_and_room : Problem → Cell → List Piece
course_and_room p e = course_text p e ∷ room_text p e ∷ []

-- The entry's course has the teacher with this name.
abbrev pub is_taught_by : Problem → List ℕ → Cell → Bool
is_taught_by p name e = is_same_text (Some name) (slice_get (course_teachers p) e.course)

-- The lines of a report: a block for each room, for each teacher or for each curriculum.
abbrev pub report_lines : Problem → List Cell → By → List (List Piece)
report_lines p t Room =
    flat_map (λ r. block p (Text (codes "room") ∷ Text (shown (slice_index_or p.rooms r no_room).id) ∷ []) (λ e. course_text p e ∷ []) (is_in r) t) (all_rooms p)
report_lines p t Teacher =
    flat_map (λ name. block p (Text (codes "teacher") ∷ Text (shown name) ∷ []) (course_and_room p) (is_taught_by p name) t) (teachers p)
report_lines p t Curriculum =
    flat_map (λ q. block p (Text (codes "curriculum") ∷ Text (shown (slice_index_or p.curricula q no_curriculum).id) ∷ []) (course_and_room p) (λ e. in_curriculum p q e.course) t) (all_curricula p)

-- The text of a report by rooms, by teachers or by curricula.
abbrev pub report_text : Problem → List Cell → By → List ℕ
report_text p t by = lines_text (report_lines p t by)
