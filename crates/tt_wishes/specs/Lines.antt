-- The lines of a text, and the words of each.
use Rattle.std.specs.Prelude.{ℕ, ◌+◌, ◌==◌, Bool, not, List, [], ◌∷◌, length, map, if◌then◌else◌}
use Rattle.std.specs.List.{slice_split}
use Rattle.tt_text.specs.Tokens.{Placed, tokens_of}

-- The words of a line, and the offset of its end.
pub record Row : Type 0 where
  pub words : List Placed
  pub end : ℕ

-- A token of a part of a text; the part begins at this offset.
abbrev pub moved_by : ℕ → Placed → Placed
moved_by at t = record { text = t.text; at = at + t.at }

-- The words of a line that begins at this offset.
abbrev pub words_of : ℕ → List ℕ → List Placed
words_of at line = map (moved_by at) (tokens_of line)

-- The row of a line that begins at this offset.
abbrev pub row_of : ℕ → List ℕ → Row
row_of at line = record { words = words_of at line; end = at + length line }

-- The rows of lines, the first of which begins at this offset. There is one byte between two lines.
abbrev pub rows_of_lines : ℕ → List (List ℕ) → List Row
rows_of_lines at [] = []
rows_of_lines at (l ∷ ls) = row_of at l ∷ rows_of_lines (at + (length l + 1)) ls

-- Whether the byte is a line feed.
abbrev pub is_line_feed : ℕ → Bool
is_line_feed b = b == 10

-- Whether the byte is in a line: it is no line feed.
abbrev pub is_in_line : ℕ → Bool
is_in_line b = not (is_line_feed b)

-- The rows of the rest of a text, which begins at this offset; none once the text is over.
abbrev pub rows_left : Bool → ℕ → List ℕ → List Row
rows_left over at rest = if over then [] else rows_of_lines at (slice_split is_line_feed rest)

-- The rows of a text: one for each line. Its lines are the parts between its line feeds.
abbrev pub rows_of : List ℕ → List Row
rows_of bytes = rows_of_lines 0 (slice_split is_line_feed bytes)
