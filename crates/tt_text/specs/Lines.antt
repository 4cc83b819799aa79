-- The text of pieces: lines of them, the form in which all three formats are written.
use Rattle.std.specs.Prelude.{ℕ, ◌<◌, ◌^◌, ◌≡◌, false, List, [], ◌∷◌, ◌++◌}
use Rattle.std.specs.Fmt.{decimal}
use Rattle.tt_text.specs.Tokens.{IsToken, is_separator}
use Rattle.tt_text.specs.Pieces.{Piece, Text, Number, Index}

-- The bytes of a piece: its text, its number in decimal digits, or its letter immediately followed by its number in decimal digits.
abbrev pub text_of : Piece → List ℕ
text_of (Text text) = text
text_of (Number n) = decimal n
text_of (Index letter n) = letter ∷ decimal n

-- A line: its pieces with one space between two, and a line feed.
abbrev pub line_text : List Piece → List ℕ
line_text [] = 10 ∷ []
line_text (p ∷ []) = text_of p ++ 10 ∷ []
line_text (p ∷ q ∷ ps) = text_of p ++ 32 ∷ line_text (q ∷ ps)

-- The bytes of all lines, one line after the other.
abbrev pub lines_text : List (List Piece) → List ℕ
lines_text [] = []
lines_text (l ∷ ls) = line_text l ++ lines_text ls

-- The pieces of all lines, in their order.
abbrev pub all_pieces : List (List Piece) → List Piece
all_pieces [] = []
all_pieces (l ∷ ls) = l ++ all_pieces ls

-- The piece can be written as a token.
abbrev pub IsWritable : Piece → Type 0
IsWritable (Text text) = IsToken text
IsWritable (Number n) = n < 2 ^ 64
IsWritable (Index letter n) = (is_separator letter ≡ false) × (n < 2 ^ 64)

-- Each piece can be written as a token.
abbrev pub AreWritable : List Piece → Type 0
AreWritable [] = Unit {0}
AreWritable (p ∷ ps) = IsWritable p × AreWritable ps

-- Each piece of each line can be written as a token.
abbrev pub LinesWritable : List (List Piece) → Type 0
LinesWritable [] = Unit {0}
LinesWritable (l ∷ ls) = AreWritable l × LinesWritable ls
