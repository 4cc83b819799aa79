-- The parts of a line.
use Rattle.std.specs.Prelude.{ℕ, List, ◌∷◌, flat_map}
use Rattle.tt_text.specs.Pieces.{Piece}
use Rattle.tt_text.specs.Lines.{text_of}

-- Each piece after a space.
abbrev pub next_texts : List Piece → List ℕ
next_texts ps = flat_map (λ p. 32 ∷ text_of p) ps
