-- The canonical text of an instance, in lines.
use Rattle.std.specs.Prelude.{ℕ, List, [], ◌∷◌, ◌++◌, length, map}
use Rattle.tt_text.specs.Pieces.{Piece, Text, Number}
use Rattle.tt_text.specs.Lines.{lines_text}
use Rattle.tt_instance_read.specs.declared.fault.Word.{Word}
use Rattle.tt_instance_read.specs.declared.fault.Word.TheVariants as word
use Rattle.tt_instance_read.specs.Words.{fixed}
use Rattle.tt_instance.specs.Problem.{Problem}
use Rattle.tt_instance.specs.Spelling.{course_pieces, room_pieces, curriculum_pieces, unavailability_pieces}

-- A line of a fixed word and a number.
abbrev pub counted_line : Word → ℕ → List Piece
counted_line w n = fixed w ∷ Number n ∷ []

-- An empty line and the word of a section.
abbrev pub section : Word → List (List Piece)
section w = [] ∷ (fixed w ∷ []) ∷ []

-- The lines of the header: the name, and the numbers of courses, rooms, days, periods of a day, curricula and unavailabilities.
abbrev pub header_lines : Problem → List (List Piece)
header_lines p =
    (fixed word.Name ∷ map Text p.name) ∷ counted_line word.Courses (length p.courses) ∷ counted_line word.Rooms (length p.rooms)
    ∷ counted_line word.Days p.days ∷ counted_line word.PeriodsPerDay p.periods
    ∷ counted_line word.Curricula (length p.curricula) ∷ counted_line word.Constraints (length p.unavailabilities) ∷ []

-- The lines of a file.
abbrev pub instance_lines : Problem → List (List Piece)
instance_lines p =
    header_lines p
    ++ (section word.CoursesPart ++ map course_pieces p.courses)
    ++ (section word.RoomsPart ++ map room_pieces p.rooms)
    ++ (section word.CurriculaPart ++ map (curriculum_pieces p.courses) p.curricula)
    ++ (section word.UnavailabilityPart ++ map (unavailability_pieces p.courses) p.unavailabilities)
    ++ section word.End

-- The bytes of the canonical text of an instance.
abbrev pub instance_text : Problem → List ℕ
instance_text p = lines_text (instance_lines p)
