-- The tokens of lines of short pieces are short.
use Rattle.std.proofs.Common.{◌≡◌, ℕ, ◌+◌, ◌≤◌, true, false, List, [], ◌∷◌, ◌++◌, length, refl, sym, subst, append_assoc, All}
use Rattle.std.proofs.lemmas.List.Elements.{All-nil, All-cons}
use Rattle.tt_text.specs.Tokens.{Placed, tokens_from, is_separator}
use Rattle.tt_text.specs.Pieces.{Piece}
use Rattle.tt_text.specs.Lines.{text_of, line_text, lines_text, IsWritable, AreWritable, LinesWritable}
use Rattle.tt_text.proofs.Lines.{piece-token}
use Rattle.tt_text.proofs.Written.{tokens-written, after_separator}

-- a piece that can be written as a token of at most 32 bytes
pub record IsFit (p : Piece) : Type 0 where
  pub writable : IsWritable p
  pub short : length (text_of p) ≤ 32

abbrev pub AreFit : List Piece → Type 0
AreFit [] = Unit {0}
AreFit (p ∷ ps) = IsFit p × AreFit ps

abbrev pub LinesFit : List (List Piece) → Type 0
LinesFit [] = Unit {0}
LinesFit (l ∷ ls) = AreFit l × LinesFit ls

are_writable : (ps : List Piece) → AreFit ps → AreWritable ps
are_writable [] fit = tt
are_writable (p ∷ ps) fit = (fit.0.writable, are_writable ps fit.1)

pub lines_writable : (ls : List (List Piece)) → LinesFit ls → LinesWritable ls
lines_writable [] fit = tt
lines_writable (l ∷ ls) fit = (are_writable l fit.0, lines_writable ls fit.1)

-- a token of at most 32 bytes
abbrev pub IsShort : Placed → Type 0
IsShort t = length t.text ≤ 32

-- one piece and the separator after it
piece_short : (p : Piece) (at s : ℕ) (more : List ℕ) → IsFit p → is_separator s ≡ true
    → ((k : ℕ) → All IsShort (tokens_from false k more)) → All IsShort (tokens_from false at (text_of p ++ s ∷ more))
piece_short p at s more fit sep h =
    subst (All IsShort) (sym (tokens-written at (text_of p) more s (piece-token p fit.writable) sep))
    (All-cons IsShort _ _ fit.short (h (at + length (text_of p) + 1)))

line_short : (ps : List Piece) (at : ℕ) (more : List ℕ) → AreFit ps → ((k : ℕ) → All IsShort (tokens_from false k more))
    → All IsShort (tokens_from false at (line_text ps ++ more))
line_short [] at more fit h = subst (All IsShort) (sym (after_separator at 10 more refl)) (h (at + 1))
line_short (p ∷ []) at more fit h =
    let grouped : (text_of p ++ 10 ∷ []) ++ more ≡ text_of p ++ 10 ∷ more = append_assoc (text_of p) (10 ∷ []) more in
    subst (λ (bs : List ℕ). All IsShort (tokens_from false at bs)) (sym grouped) (piece_short p at 10 more fit.0 refl h)
line_short (p ∷ q ∷ ps) at more fit h =
    let grouped : (text_of p ++ 32 ∷ line_text (q ∷ ps)) ++ more ≡ text_of p ++ 32 ∷ (line_text (q ∷ ps) ++ more) =
    append_assoc (text_of p) (32 ∷ line_text (q ∷ ps)) more in
    subst (λ (bs : List ℕ). All IsShort (tokens_from false at bs)) (sym grouped)
    (piece_short p at 32 (line_text (q ∷ ps) ++ more) fit.0 refl (λ k. line_short (q ∷ ps) k more fit.1 h))

pub lines_short : (ls : List (List Piece)) (at : ℕ) → LinesFit ls → All IsShort (tokens_from false at (lines_text ls))
unfolding tokens_from
lines_short [] at fit = All-nil IsShort
lines_short (l ∷ ls) at fit = line_short l at (lines_text ls) fit.0 (λ k. lines_short ls k fit.1)
