-- The text of a name in a string of a style: its letters, read as UTF-8, with escapes for quotes, for the backslash and for the letters that
-- HTML takes for markup.
use Rattle.std.specs.Prelude.{◌≡◌, ◌⊎◌, ℕ, ◌==◌, Bool, false, true, List, [], ◌∷◌, flat_map, chars, codes, encode_utf8, if◌then◌else◌}
use Rattle.std.specs.Char.{is_control}
use Rattle.std.specs.List.{list_any}
use Rattle.std.specs.Str.Lossy.{utf8_lossy}
use Rattle.tt_text.specs.Texts.{has_name}
use Rattle.tt_page_text.specs.Shown.{unshown}

-- The text of a letter in a string: six letters have escapes, and a control character is shown as U+FFFD.
unfoldable pub quoted_letter : ℕ → List ℕ
quoted_letter c =
    if c == 34 then codes "\\22 " else (if c == 38 then codes "\\26 " else (if c == 39 then codes "\\27 "
    else (if c == 60 then codes "\\3c " else (if c == 62 then codes "\\3e " else (if c == 92 then codes "\\5c "
    else (if is_control c then encode_utf8 unshown else encode_utf8 c))))))

-- The text of all letters of a name; bytes that are not UTF-8 are read as U+FFFD.
unfoldable pub quoted : List ℕ → List ℕ
quoted name = flat_map quoted_letter (chars (utf8_lossy name))

-- ---- inert text

-- The letters that could end a string or a style, or begin an escape.
abbrev pub is_special : ℕ → Bool
is_special c = list_any (λ m. c == m) (codes "\"&'<>\\")

-- The escapes of these letters.
abbrev pub escapes : List (List ℕ)
escapes = codes "\\22 " ∷ codes "\\26 " ∷ codes "\\27 " ∷ codes "\\3c " ∷ codes "\\3e " ∷ codes "\\5c " ∷ []

-- The UTF-8 of one letter that is neither special nor a control character, as the end of a line is.
pub record IsOrdinary (piece : List ℕ) : Type 0 where
  pub letter : ℕ
  pub no_special : is_special letter ≡ false
  pub no_control : is_control letter ≡ false
  pub spelled : piece ≡ encode_utf8 letter

-- An ordinary letter, or one of the escapes.
abbrev pub IsQuotedPiece : List ℕ → Type 0
IsQuotedPiece piece = IsOrdinary piece ⊎ (has_name escapes piece ≡ true)

-- Each piece is an ordinary letter or one of the escapes.
abbrev pub AreQuoted : List (List ℕ) → Type 0
AreQuoted [] = Unit {0}
AreQuoted (piece ∷ pieces) = IsQuotedPiece piece × AreQuoted pieces

-- Text that stays in its string: it consists only of ordinary letters and escapes.
pub record IsQuoted (text : List ℕ) : Type 0 where
  pub pieces : List (List ℕ)
  pub quoted : AreQuoted pieces
  pub joined : text ≡ flat_map (λ piece. piece) pieces
