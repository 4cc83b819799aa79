-- The fixed words of the proof format.
use Rattle.std.specs.Prelude.{ℕ, List, codes}
use Rattle.tt_text.specs.Pieces.{Piece, Text}
use Rattle.tt_proof_read.specs.declared.fault.Word.{Word}
use Rattle.tt_proof_read.specs.declared.fault.Word.TheVariants as word

-- The bytes of a fixed word.
abbrev pub word_text : Word → List ℕ
word_text word.Cttp = codes "CTTP"
word_text word.One = codes "1"
word_text word.Bound = codes "bound"
word_text word.End = codes "end"

-- A fixed word as a piece of a file.
abbrev pub fixed : Word → Piece
fixed w = Text (word_text w)
