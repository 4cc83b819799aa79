-- The text shown for a name, chunk by chunk: each is text, with bytes behind it that are none.
use Rattle.std.proofs.Common.{◌≡◌, ℕ, List, [], ◌∷◌, ◌++◌, length, refl, sym, ap, ◌∙◌, append_assoc}
use Rattle.std.specs.Prelude.{flat_map, IsUtf8}
use Rattle.std.specs.Str.{chars}
use Rattle.std.specs.Str.Lossy.{utf8_lossy, replacement_bytes}
use Rattle.std.proofs.lemmas.Grind.{flat_map-append}
use Rattle.std.proofs.lemmas.Str.{chars-append, chars-nil, utf8_lossy_empty}
use Rattle.tt_page_text.proofs.Growing.{put_nothing, put_twice, then_put}
use Rattle.tt_page_text.specs.Puts.{put_text}
use Rattle.tt_page_text.specs.Shown.{letter_text, shown, unshown}
use Rattle.tt_page_text.specs.Windowed.{PageState}

-- the text of all letters of a text
abbrev pub letters_text : List ℕ → List ℕ
letters_text bs = flat_map letter_text (chars bs)

pub shown_letters : (name : List ℕ) → letters_text (utf8_lossy name) ≡ shown name
unfolding shown
shown_letters name = refl

chars-replacement : (bs : List ℕ) → chars (replacement_bytes ++ bs) ≡ unshown ∷ chars bs
unfolding chars
chars-replacement [] = refl
chars-replacement (b ∷ bs) = refl

letters-append : (xs ys : List ℕ) → IsUtf8 xs → letters_text (xs ++ ys) ≡ letters_text xs ++ letters_text ys
letters-append xs ys utf8 = ap (flat_map letter_text) (chars-append xs ys utf8) ∙ flat_map-append letter_text (chars xs) (chars ys)

-- a chunk with bytes that are no text was put
pub chunk_put : (first s t u : PageState) (rest valid more : List ℕ) → IsUtf8 valid
    → utf8_lossy rest ≡ valid ++ (replacement_bytes ++ utf8_lossy more) → t ≡ put_text s (letters_text valid)
    → u ≡ put_text t (letter_text unshown) → put_text s (letters_text (utf8_lossy rest)) ≡ first
    → put_text u (letters_text (utf8_lossy more)) ≡ first
chunk_put first s t u rest valid more utf8 is h k before =
    let a = letters_text valid in
    let b = letter_text unshown in
    let z = letters_text (utf8_lossy more) in
    let whole : letters_text (utf8_lossy rest) ≡ (a ++ b) ++ z =
    ap letters_text is ∙ letters-append valid (replacement_bytes ++ utf8_lossy more) utf8
    ∙ ap (λ (cs : List ℕ). a ++ flat_map letter_text cs) (chars-replacement (utf8_lossy more)) ∙ sym (append_assoc a b z) in
    ap (λ v. put_text v z) (then_put s t u a b h k) ∙ put_twice s (a ++ b) z ∙ ap (put_text s) (sym whole) ∙ before

-- the last chunk was put, which is text
pub last_chunk_put : (first s t : PageState) (rest valid more : List ℕ) → IsUtf8 valid → utf8_lossy rest ≡ valid ++ utf8_lossy more
    → t ≡ put_text s (letters_text valid) → put_text s (letters_text (utf8_lossy rest)) ≡ first
    → put_text t (letters_text (utf8_lossy more)) ≡ first
last_chunk_put first s t rest valid more utf8 is h before =
    let z = letters_text (utf8_lossy more) in
    let whole = ap letters_text is ∙ letters-append valid (utf8_lossy more) utf8 in
    ap (λ v. put_text v z) h ∙ put_twice s (letters_text valid) z ∙ ap (put_text s) (sym whole) ∙ before

-- all chunks were put
pub chunks_put : (first s : PageState) (rest : List ℕ) → length rest ≡ 0 → put_text s (letters_text (utf8_lossy rest)) ≡ first → s ≡ first
chunks_put first s rest none before =
    sym (put_nothing s) ∙ ap (put_text s) (sym (ap letters_text (utf8_lossy_empty rest none) ∙ ap (flat_map letter_text) chars-nil))
    ∙ before
