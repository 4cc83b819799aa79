-- The lines of the changes from an older timetable to a newer one: one for each lecture, and one that counts.
use Rattle.std.specs.Prelude.{ℕ, List, [], ◌∷◌, ◌++◌, map, codes, slice_index_or}
use Rattle.tt_text.specs.Pieces.{Piece, Text, Number}
use Rattle.tt_text.specs.Lines.{lines_text}
use Rattle.tt_instance.specs.Problem.{Problem}
use Rattle.tt_instance.specs.Courses.{no_course, no_room}
use Rattle.tt_instance.specs.declared.cell.Cell.{Cell}
use Rattle.tt_changes.specs.declared.change.Change.{Change}
use Rattle.tt_changes.specs.declared.change.Changes.{Changes}

-- The name of an entry's course.
abbrev pub course_piece : Problem → Cell → Piece
course_piece p e = Text (slice_index_or p.courses e.course no_course).id

-- The name of an entry's room, its day and its period.
abbrev pub place_pieces : Problem → Cell → List Piece
place_pieces p e = Text (slice_index_or p.rooms e.room no_room).id ∷ Number e.day ∷ Number e.period ∷ []

-- A word, the course, where the lecture was and where it is.
abbrev pub change_line : Problem → List ℕ → Change → List Piece
change_line p word m =
    Text word ∷ course_piece p m.from ∷ (place_pieces p m.from ++ Text (codes "to") ∷ place_pieces p m.to)

-- A word, the course and a place.
abbrev pub entry_line : Problem → List ℕ → Cell → List Piece
entry_line p word e = Text word ∷ course_piece p e ∷ place_pieces p e

-- The number of lectures that left their period, and of those that changed only their room.
abbrev pub counts_line : ℕ → ℕ → List Piece
counts_line moved rooms = Text (codes "moved") ∷ Number moved ∷ Text (codes "rooms") ∷ Number rooms ∷ []

-- The lines of the changes, kind by kind, and of two counts.
abbrev pub changes_text : Problem → Changes → ℕ → ℕ → List ℕ
changes_text p c moved rooms =
    lines_text (map (change_line p (codes "moved")) c.moved.items)
    ++ lines_text (map (change_line p (codes "room")) c.rooms.items)
    ++ lines_text (map (entry_line p (codes "gone")) c.gone.items)
    ++ lines_text (map (entry_line p (codes "added")) c.added.items)
    ++ lines_text (counts_line moved rooms ∷ [])
