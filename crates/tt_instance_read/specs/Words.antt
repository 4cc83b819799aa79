-- The fixed words of the format.
use Rattle.std.specs.Prelude.{ℕ, List, codes}
use Rattle.tt_text.specs.Pieces.{Piece, Text}
use Rattle.tt_instance_read.specs.declared.fault.Word.{Word}
use Rattle.tt_instance_read.specs.declared.fault.Word.TheVariants as word

-- The bytes of a fixed word.
abbrev pub word_text : Word → List ℕ
word_text word.Name = codes "Name:"
word_text word.Courses = codes "Courses:"
word_text word.Rooms = codes "Rooms:"
word_text word.Days = codes "Days:"
word_text word.PeriodsPerDay = codes "Periods_per_day:"
word_text word.Curricula = codes "Curricula:"
word_text word.Constraints = codes "Constraints:"
word_text word.CoursesPart = codes "COURSES:"
word_text word.RoomsPart = codes "ROOMS:"
word_text word.CurriculaPart = codes "CURRICULA:"
word_text word.UnavailabilityPart = codes "UNAVAILABILITY_CONSTRAINTS:"
word_text word.End = codes "END."

-- A fixed word as a piece of a file.
abbrev pub fixed : Word → Piece
fixed w = Text (word_text w)
