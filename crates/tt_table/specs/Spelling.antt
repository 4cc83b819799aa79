-- Which timetable the bytes of a solution file spell (the competition's output format: course, room, day and period of each entry).
use Rattle.std.specs.Prelude.{◌≤◌, ℕ, List, [], ◌∷◌, length, map, flat_map, slice_index_or}
use Rattle.tt_text.specs.Tokens.{tokens_of}
use Rattle.tt_text.specs.Pieces.{Piece, Text, Number, Begins}
use Rattle.tt_text.specs.Lines.{lines_text}
use Rattle.tt_instance.specs.Problem.{Problem}
use Rattle.tt_instance.specs.Courses.{no_room}
use Rattle.tt_instance.specs.Spelling.{Spells, named}
use Rattle.tt_instance.specs.declared.cell.Cell.{Cell}
use Rattle.tt_table.specs.Table.{IsTimetable}
use Rattle.tt_table.specs.declared.table.TheConstants.{MAX_ENTRIES}

-- The pieces of an entry: the names of its course and its room, and the numbers of its day and its period.
abbrev pub entry_pieces : Problem → Cell → List Piece
entry_pieces p e =
    named p.courses e.course ∷ Text (slice_index_or p.rooms e.room no_room).id ∷ Number e.day ∷ Number e.period ∷ []

-- The tokens of the bytes are exactly those of the entries.
pub record SpellsTable (p : Problem) (bytes : List ℕ) (t : List Cell) : Type 0 where
  pub tokens : Begins (flat_map (entry_pieces p) t) (tokens_of bytes) []
  pub at_most : length t ≤ MAX_ENTRIES
  pub in_range : IsTimetable p t

-- whether the bytes spell an instance and a timetable of it
pub record SpellsBoth (instance solution : List ℕ) (p : Problem) (t : List Cell) : Type 0 where
  pub spelled : Spells instance p
  pub solved : SpellsTable p solution t

-- The text written for a timetable: one line for each entry, in order.
abbrev pub solution_text : Problem → List Cell → List ℕ
solution_text p t = lines_text (map (entry_pieces p) t)
