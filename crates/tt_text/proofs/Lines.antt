-- The text of written lines spells exactly their pieces, in their order.
use Rattle.std.proofs.Common.{◌≡◌, ℕ, ◌+◌, ◌<◌, ◌^◌, true, false, ltb, List, [], ◌∷◌, ◌++◌, length, refl, sym, subst, append_assoc, arith}
use Rattle.std.specs.List.{list_all}
use Rattle.std.specs.Str.{all_ascii_digits}
use Rattle.std.specs.Char.{is_ascii_digit}
use Rattle.std.specs.Fmt.{decimal}
use Rattle.std.proofs.lemmas.Fmt.{decimal_nonempty, digits_decimal, digits_value-decimal}
use Rattle.std.proofs.lemmas.Bool.{lt-ltb, and_parts, and_from, not_from_false}
use Rattle.std.proofs.lemmas.Bool.Decides.{nat_tests}
use Rattle.tt_text.specs.Tokens.{Placed, tokens_from, is_separator, in_token, IsToken}
use Rattle.tt_text.specs.Pieces.{Piece, Text, Number, Index, SpellsNumber, IsPiece, Begins}
use Rattle.tt_text.specs.Lines.{text_of, line_text, lines_text, all_pieces, IsWritable, AreWritable, LinesWritable}
use Rattle.tt_text.proofs.Digits.{own}
use Rattle.tt_text.proofs.Written.{tokens-written, after_separator}

digit_in_token : (c : ℕ) → is_ascii_digit c ≡ true → in_token c ≡ true
digit_in_token c h = grind (arith, nat_tests)

digits_in_token : (ds : List ℕ) → all_ascii_digits ds ≡ true → list_all in_token ds ≡ true
digits_in_token [] h = refl
digits_in_token (d ∷ ds) h =
    let parts = and_parts (is_ascii_digit d) (all_ascii_digits ds) h in
    and_from (in_token d) (list_all in_token ds) (digit_in_token d parts.0) (digits_in_token ds parts.1)

pub decimal-token : (n : ℕ) → n < 2 ^ 64 → IsToken (decimal n)
decimal-token n small = record { some = decimal_nonempty n small; within = digits_in_token (decimal n) (digits_decimal own n small) }

pub decimal-number : (n : ℕ) → n < 2 ^ 64 → SpellsNumber (decimal n) n
decimal-number n small = record {
  digits_only = and_from (ltb 0 (length (decimal n))) (all_ascii_digits (decimal n)) (lt-ltb _ _ (decimal_nonempty n small))
      (digits_decimal own n small);
  value = digits_value-decimal own n small;
}

pub piece-token : (p : Piece) → IsWritable p → IsToken (text_of p)
piece-token (Text text) h = h
piece-token (Number n) h = decimal-token n h
piece-token (Index letter n) h = record {
  some = omega arith;
  within = and_from (in_token letter) (list_all in_token (decimal n)) (not_from_false (is_separator letter) h.0)
      (decimal-token n h.1).within;
}

pub piece-is : (p : Piece) → IsWritable p → IsPiece p (text_of p)
piece-is (Text text) h = refl
piece-is (Number n) h = decimal-number n h
piece-is (Index letter n) h = (decimal n, refl, decimal-number n h.1)

-- one piece and the separator after it
piece_begins : (p : Piece) (at s : ℕ) (more : List ℕ) (qs : List Piece) → IsWritable p → is_separator s ≡ true
    → ((k : ℕ) → Begins qs (tokens_from false k more) [])
    → Begins (p ∷ qs) (tokens_from false at (text_of p ++ s ∷ more)) []
piece_begins p at s more qs writable sep h =
    subst (λ (ts : List Placed). Begins (p ∷ qs) ts []) (sym (tokens-written at (text_of p) more s (piece-token p writable) sep))
    (piece-is p writable, h (at + length (text_of p) + 1))

pub line_begins : (ps : List Piece) (at : ℕ) (more : List ℕ) (qs : List Piece) → AreWritable ps
    → ((k : ℕ) → Begins qs (tokens_from false k more) [])
    → Begins (ps ++ qs) (tokens_from false at (line_text ps ++ more)) []
line_begins [] at more qs writable h = subst (λ (ts : List Placed). Begins qs ts []) (sym (after_separator at 10 more refl)) (h (at + 1))
line_begins (p ∷ []) at more qs writable h =
    let grouped : (text_of p ++ 10 ∷ []) ++ more ≡ text_of p ++ 10 ∷ more = append_assoc (text_of p) (10 ∷ []) more in
    subst (λ (bs : List ℕ). Begins (p ∷ qs) (tokens_from false at bs) []) (sym grouped) (piece_begins p at 10 more qs writable.0 refl h)
line_begins (p ∷ q ∷ ps) at more qs writable h =
    let grouped : (text_of p ++ 32 ∷ line_text (q ∷ ps)) ++ more ≡ text_of p ++ 32 ∷ (line_text (q ∷ ps) ++ more) =
    append_assoc (text_of p) (32 ∷ line_text (q ∷ ps)) more in
    subst (λ (bs : List ℕ). Begins (p ∷ q ∷ (ps ++ qs)) (tokens_from false at bs) []) (sym grouped)
    (piece_begins p at 32 (line_text (q ∷ ps) ++ more) (q ∷ (ps ++ qs)) writable.0 refl (λ k. line_begins (q ∷ ps) k more qs writable.1 h))

pub lines_begin : (ls : List (List Piece)) (at : ℕ) → LinesWritable ls → Begins (all_pieces ls) (tokens_from false at (lines_text ls)) []
unfolding tokens_from
lines_begin [] at writable = refl
lines_begin (l ∷ ls) at writable = line_begins l at (lines_text ls) (all_pieces ls) writable.0 (λ k. lines_begin ls k writable.1)
