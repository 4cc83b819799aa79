-- The blocks of a report, one by one.
use Rattle.std.specs.Prelude.{ℕ, ◌<◌, Bool, List, [], ◌∷◌, ◌++◌, filter, length, flat_map, codes, slice_index_or}
use Rattle.tt_list_laws.specs.Words.{range_below}
use Rattle.tt_text.specs.Pieces.{Piece, Text}
use Rattle.tt_text.specs.Lines.{text_of, line_text}
use Rattle.tt_instance.specs.Problem.{Problem}
use Rattle.tt_instance.specs.Cells.{all_days, slot, is_in}
use Rattle.tt_instance.specs.Courses.{no_room, no_curriculum, teachers, in_curriculum}
use Rattle.tt_instance.specs.declared.cell.Cell.{Cell}
use Rattle.tt_instance.specs.declared.cell.Slot.{Slot}
use Rattle.tt_report.specs.Names.{shown}
use Rattle.tt_report.specs.Reports.{course_text, course_and_room, is_taught_by, slot_line}
use Rattle.tt_report.specs.declared.blocks.Block.{Block}
use Rattle.tt_report.specs.declared.blocks.Block.TheVariants as of

-- The room, teacher or curriculum exists.
abbrev pub IsBlock : Problem → Block → Type 0
IsBlock p (of.Room r) = r < length p.rooms
IsBlock p (of.Teacher k) = k < length (teachers p)
IsBlock p (of.Curriculum q) = q < length p.curricula

-- The head line of a block: the name of its room, teacher or curriculum, after the word for it.
abbrev pub head_of : Problem → Block → List Piece
head_of p (of.Room r) = Text (codes "room") ∷ Text (shown (slice_index_or p.rooms r no_room).id) ∷ []
head_of p (of.Teacher k) = Text (codes "teacher") ∷ Text (shown (slice_index_or (teachers p) k [])) ∷ []
head_of p (of.Curriculum q) = Text (codes "curriculum") ∷ Text (shown (slice_index_or p.curricula q no_curriculum).id) ∷ []

-- The pieces shown for an entry.
abbrev pub shown_in : Problem → Block → Cell → List Piece
shown_in p (of.Room r) e = course_text p e ∷ []
shown_in p (of.Teacher k) e = course_and_room p e
shown_in p (of.Curriculum q) e = course_and_room p e

-- The entry belongs to the block.
abbrev pub belongs_to : Problem → Block → Cell → Bool
belongs_to p (of.Room r) e = is_in r e
belongs_to p (of.Teacher k) e = is_taught_by p (slice_index_or (teachers p) k []) e
belongs_to p (of.Curriculum q) e = in_curriculum p q e.course

-- Each piece after a space.
abbrev pub next_texts : List Piece → List ℕ
next_texts ps = flat_map (λ p. 32 ∷ text_of p) ps

-- ---- the text of each part

-- The texts of the entries that belong to the block.
abbrev pub entries_text : Problem → Block → List Cell → List ℕ
entries_text p b es = flat_map (λ e. next_texts (shown_in p b e)) (filter (belongs_to p b) es)

-- The line of a period in a block.
abbrev pub slot_text : Problem → List Cell → Block → Slot → List ℕ
slot_text p t b s = line_text (slot_line (shown_in p b) (belongs_to p b) t s)

-- The lines of a day in a block, one for each period.
abbrev pub day_text : Problem → List Cell → Block → ℕ → List ℕ
day_text p t b d = flat_map (λ s. slot_text p t b (slot d s)) (range_below p.periods)

-- The text of a block: its head line, and the lines of all days.
abbrev pub block_text : Problem → List Cell → Block → List ℕ
block_text p t b = line_text (head_of p b) ++ flat_map (day_text p t b) (all_days p)
