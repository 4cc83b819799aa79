-- The text quoted for a name, chunk by chunk: each is text, with bytes behind it that are none.
use Rattle.std.proofs.Common.{◌≡◌, ℕ, List, [], ◌∷◌, ◌++◌, length, refl, sym, ap, ◌∙◌, append_assoc}
use Rattle.std.specs.Prelude.{flat_map, IsUtf8}
use Rattle.std.specs.Str.{chars}
use Rattle.std.specs.Str.Lossy.{utf8_lossy, replacement_bytes}
use Rattle.std.proofs.lemmas.Grind.{flat_map-append}
use Rattle.std.proofs.lemmas.Str.{chars-append, chars-nil, utf8_lossy_empty}
use Rattle.tt_page_text.proofs.Growing.{put_nothing, put_twice, then_put}
use Rattle.tt_page_text.specs.Puts.{put_text}
use Rattle.tt_page_text.specs.Shown.{unshown}
use Rattle.tt_page_text.specs.Quoted.{quoted_letter, quoted}
use Rattle.tt_page_text.specs.Windowed.{PageState}

-- the text of all letters of a text
abbrev pub quoted_letters : List ℕ → List ℕ
quoted_letters bs = flat_map quoted_letter (chars bs)

pub quoted_all : (name : List ℕ) → quoted_letters (utf8_lossy name) ≡ quoted name
unfolding quoted
quoted_all name = refl

chars-replacement : (bs : List ℕ) → chars (replacement_bytes ++ bs) ≡ unshown ∷ chars bs
unfolding chars
chars-replacement [] = refl
chars-replacement (b ∷ bs) = refl

letters-append : (xs ys : List ℕ) → IsUtf8 xs → quoted_letters (xs ++ ys) ≡ quoted_letters xs ++ quoted_letters ys
letters-append xs ys utf8 = ap (flat_map quoted_letter) (chars-append xs ys utf8) ∙ flat_map-append quoted_letter (chars xs) (chars ys)

-- a chunk with bytes that are no text was put
pub chunk_put : (first s t u : PageState) (rest valid more : List ℕ) → IsUtf8 valid
    → utf8_lossy rest ≡ valid ++ (replacement_bytes ++ utf8_lossy more) → t ≡ put_text s (quoted_letters valid)
    → u ≡ put_text t (quoted_letter unshown) → put_text s (quoted_letters (utf8_lossy rest)) ≡ first
    → put_text u (quoted_letters (utf8_lossy more)) ≡ first
chunk_put first s t u rest valid more utf8 is h k before =
    let a = quoted_letters valid in
    let b = quoted_letter unshown in
    let z = quoted_letters (utf8_lossy more) in
    let whole : quoted_letters (utf8_lossy rest) ≡ (a ++ b) ++ z =
    ap quoted_letters is ∙ letters-append valid (replacement_bytes ++ utf8_lossy more) utf8
    ∙ ap (λ (cs : List ℕ). a ++ flat_map quoted_letter cs) (chars-replacement (utf8_lossy more)) ∙ sym (append_assoc a b z) in
    ap (λ v. put_text v z) (then_put s t u a b h k) ∙ put_twice s (a ++ b) z ∙ ap (put_text s) (sym whole) ∙ before

-- the last chunk was put, which is text
pub last_chunk_put : (first s t : PageState) (rest valid more : List ℕ) → IsUtf8 valid → utf8_lossy rest ≡ valid ++ utf8_lossy more
    → t ≡ put_text s (quoted_letters valid) → put_text s (quoted_letters (utf8_lossy rest)) ≡ first
    → put_text t (quoted_letters (utf8_lossy more)) ≡ first
last_chunk_put first s t rest valid more utf8 is h before =
    let z = quoted_letters (utf8_lossy more) in
    let whole = ap quoted_letters is ∙ letters-append valid (utf8_lossy more) utf8 in
    ap (λ v. put_text v z) h ∙ put_twice s (quoted_letters valid) z ∙ ap (put_text s) (sym whole) ∙ before

-- all chunks were put
pub chunks_put : (first s : PageState) (rest : List ℕ) → length rest ≡ 0 → put_text s (quoted_letters (utf8_lossy rest)) ≡ first → s ≡ first
chunks_put first s rest none before =
    sym (put_nothing s) ∙ ap (put_text s) (sym (ap quoted_letters (utf8_lossy_empty rest none) ∙ ap (flat_map quoted_letter) chars-nil))
    ∙ before
