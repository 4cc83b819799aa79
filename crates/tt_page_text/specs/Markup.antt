-- Pieces of a page, in turn.
use Rattle.std.specs.Prelude.{ℕ, ◌==◌, List, [], ◌∷◌, flat_map, if◌then◌else◌}
use Rattle.std.specs.Fmt.{decimal}
use Rattle.tt_text.specs.Pieces.{Piece, Text, Number}
use Rattle.tt_text.specs.Lines.{text_of}
use Rattle.tt_page_text.specs.Shown.{shown}
use Rattle.tt_page_text.specs.declared.part.Part.{Part}
use Rattle.tt_page_text.specs.declared.part.Part.TheVariants as part

-- Texts and numbers without anything between them.
abbrev pub markup : List Piece → List ℕ
markup pieces = flat_map text_of pieces

-- A number and the text around it, if it isn't 0.
abbrev pub counted : List ℕ → ℕ → List ℕ → List ℕ
counted before n behind = if n == 0 then [] else markup (Text before ∷ Number n ∷ Text behind ∷ [])

-- The text of a part, in the form that the program uses.
abbrev pub part_text : Part → List ℕ
part_text (part.Text text) = text.now
part_text (part.Number n) = decimal n
part_text (part.Count n) = decimal n
part_text (part.Name name) = shown name.now

-- The texts of all parts, without anything between them.
abbrev pub parts_text : List Part → List ℕ
parts_text parts = flat_map part_text parts
