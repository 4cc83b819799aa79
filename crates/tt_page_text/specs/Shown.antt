-- The text of a name in a page: its letters, read as UTF-8, with references for the letters that HTML takes for markup.
use Rattle.std.specs.Prelude.{◌≡◌, ◌⊎◌, ℕ, ◌==◌, Bool, true, false, List, [], ◌∷◌, flat_map, chars, codes, encode_utf8, if◌then◌else◌}
use Rattle.std.specs.Char.{IsScalar, is_control}
use Rattle.std.specs.List.{list_any}
use Rattle.std.specs.Str.Lossy.{utf8_lossy}
use Rattle.tt_text.specs.Texts.{has_name}

-- A control character is shown as the letter U+FFFD.
abbrev pub unshown : ℕ
unshown = 0xFFFD

-- The text of a letter in a page: `&`, `<`, `>` and both quotes have references.
unfoldable pub letter_text : ℕ → List ℕ
letter_text c =
    if c == 38 then codes "&amp;" else (if c == 60 then codes "&lt;" else (if c == 62 then codes "&gt;"
    else (if c == 34 then codes "&quot;" else (if c == 39 then codes "&#39;"
    else (if is_control c then encode_utf8 unshown else encode_utf8 c)))))

-- The text of all letters of a name; bytes that are not UTF-8 are read as U+FFFD.
unfoldable pub shown : List ℕ → List ℕ
shown name = flat_map letter_text (chars (utf8_lossy name))

-- ---- harmless text

-- The five letters that HTML takes for markup.
abbrev pub is_markup : ℕ → Bool
is_markup c = list_any (λ m. c == m) (codes "&<>\"'")

-- The references of these five letters.
abbrev pub references : List (List ℕ)
references = codes "&amp;" ∷ codes "&lt;" ∷ codes "&gt;" ∷ codes "&quot;" ∷ codes "&#39;" ∷ []

-- The UTF-8 of one letter that is neither markup nor a control character.
pub record IsPlain (piece : List ℕ) : Type 0 where
  pub letter : ℕ
  pub scalar : IsScalar letter
  pub no_markup : is_markup letter ≡ false
  pub no_control : is_control letter ≡ false
  pub spelled : piece ≡ encode_utf8 letter

-- A plain letter, or one of the references.
abbrev pub IsHarmlessPiece : List ℕ → Type 0
IsHarmlessPiece piece = IsPlain piece ⊎ (has_name references piece ≡ true)

-- Each piece is a plain letter or one of the references.
abbrev pub AreHarmless : List (List ℕ) → Type 0
AreHarmless [] = Unit {0}
AreHarmless (piece ∷ pieces) = IsHarmlessPiece piece × AreHarmless pieces

-- Text that can't leave its place: it consists only of plain letters and references, so it is UTF-8.
pub record IsHarmless (text : List ℕ) : Type 0 where
  pub pieces : List (List ℕ)
  pub harmless : AreHarmless pieces
  pub joined : text ≡ flat_map (λ piece. piece) pieces
