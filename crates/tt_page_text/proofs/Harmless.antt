-- The text shown for a name is harmless.
use Rattle.std.proofs.Common.{◌≡◌, ℕ, zero, suc, ◌<◌, ◌≤◌, lit<, Bool, true, false, cond, List, [], ◌∷◌, ◌++◌, length, map, take, refl, sym, ap, subst, ◌∙◌, inl, inr, ⊎_elim, arith}
use Rattle.std.specs.Prelude.{◌==◌, nat_lt, IsAscii, flat_map, codes, encode_utf8, IsUtf8}
use Rattle.std.specs.Char.{IsScalar, is_control}
use lib.Utf8.{encode}
use Rattle.std.specs.Str.{all_scalars, chars, is_utf8}
use Rattle.std.specs.List.{list_all}
use Rattle.std.specs.Str.Lossy.{valid_len_up_to, utf8_valid_len, utf8_lossy, after_first_chunk, replacement_bytes}
use Rattle.std.proofs.lemmas.Bool.{and_parts, ltb-true, cases_Bool, cases_lt, cond-true, cond-false}
use Rattle.std.proofs.lemmas.List.{take_all}
use Rattle.std.proofs.lemmas.List.Folds.{flat_map-map}
use Rattle.std.proofs.lemmas.Str.{chars-encodes, IsUtf8-append, IsUtf8-encode, IsUtf8-nil, IsUtf8-from_ascii, IsUtf8-from_is_utf8, utf8_lossy-IsUtf8, utf8_lossy_step}
use Rattle.std.proofs.str.Lossy.{length-after_first_chunk}
use Rattle.tt_page_text.specs.Shown.{is_markup, letter_text, shown, unshown, IsHarmlessPiece, AreHarmless, IsHarmless}

-- a property of the references and of each plain letter holds of the text of each letter
module _ (P : List ℕ → Type 0)
    (amp : P (codes "&amp;")) (lt : P (codes "&lt;")) (gt : P (codes "&gt;")) (quot : P (codes "&quot;")) (apos : P (codes "&#39;"))
    (plain : (d : ℕ) → IsScalar d → is_markup d ≡ false → is_control d ≡ false → P (encode_utf8 d)) where
  by_tests : (c : ℕ) (a b d e f g : Bool) → IsScalar c → (c == 38) ≡ a → (c == 60) ≡ b → (c == 62) ≡ d → (c == 34) ≡ e → (c == 39) ≡ f
      → is_control c ≡ g
      → P (cond a (codes "&amp;")
      (cond b (codes "&lt;")
      (cond d (codes "&gt;") (cond e (codes "&quot;") (cond f (codes "&#39;") (cond g (encode_utf8 unshown) (encode_utf8 c)))))))
  by_tests c true b d e f g scalar h i j k l m = amp
  by_tests c false true d e f g scalar h i j k l m = lt
  by_tests c false false true e f g scalar h i j k l m = gt
  by_tests c false false false true f g scalar h i j k l m = quot
  by_tests c false false false false true g scalar h i j k l m = apos
  by_tests c false false false false false true scalar h i j k l m = plain unshown refl refl refl
  by_tests c false false false false false false scalar h i j k l m = plain c scalar (rw (h, i, j, k, l) refl) m

  of_letter : (c : ℕ) → IsScalar c → P (letter_text c)
  unfolding letter_text
  of_letter c scalar = by_tests c (c == 38) (c == 60) (c == 62) (c == 34) (c == 39) (is_control c) scalar refl refl refl refl refl refl

harmless_letters : (cs : List ℕ) → all_scalars cs ≡ true → AreHarmless (map letter_text cs)
harmless_letters [] ok = tt
harmless_letters (c ∷ cs) ok =
    let parts = and_parts _ _ ok in (
      of_letter IsHarmlessPiece (inr refl) (inr refl) (inr refl) (inr refl) (inr refl)
          (λ d scalar markup control. inl
          (record { letter = d; scalar = scalar; no_markup = markup; no_control = control; spelled = refl })) c parts.0,
      harmless_letters cs parts.1,
    )

-- bytes below 128 are UTF-8
ascii : (bs : List ℕ) → list_all (λ b. nat_lt b 128) bs ≡ true → IsUtf8 bs
ascii bs small = IsUtf8-from_ascii bs (each bs small)
  where
    each : (bs : List ℕ) → list_all (λ b. nat_lt b 128) bs ≡ true → IsAscii bs
    each [] h i = lit< tt
    each (b ∷ bs) h zero = ltb-true b 128 (and_parts (nat_lt b 128) (list_all (λ x. nat_lt x 128) bs) h).0
    each (b ∷ bs) h (suc i) = each bs (and_parts (nat_lt b 128) (list_all (λ x. nat_lt x 128) bs) h).1 i

utf8_letters : (cs : List ℕ) → all_scalars cs ≡ true → IsUtf8 (flat_map letter_text cs)
utf8_letters [] ok = IsUtf8-nil
utf8_letters (c ∷ cs) ok =
    let parts = and_parts _ _ ok in
    IsUtf8-append (letter_text c) (flat_map letter_text cs) (of_letter IsUtf8 (ascii (codes "&amp;") refl) (ascii (codes "&lt;") refl)
    (ascii (codes "&gt;") refl) (ascii (codes "&quot;") refl) (ascii (codes "&#39;") refl)
    (λ d scalar markup control. IsUtf8-encode d scalar) c parts.0) (utf8_letters cs parts.1)

scalars_of : (bs : List ℕ) → IsUtf8 bs → all_scalars (chars bs) ≡ true
scalars_of bs utf8 = ap all_scalars (ap chars (sym utf8.1.1) ∙ chars-encodes utf8.0 utf8.1.0) ∙ utf8.1.0

-- ---- bytes read as UTF-8 with U+FFFD are UTF-8

front_utf8 : (bs : List ℕ) (m : ℕ) → IsUtf8 (take (valid_len_up_to bs m) bs)
front_utf8 bs zero = IsUtf8-nil
front_utf8 bs (suc m) = ⊎_elim
    (λ yes. subst (λ n. IsUtf8 (take n bs)) (sym (cond-true (is_utf8 (take (suc m) bs)) (suc m) (valid_len_up_to bs m) yes))
    (IsUtf8-from_is_utf8 (take (suc m) bs) yes))
    (λ no. subst (λ n. IsUtf8 (take n bs)) (sym (cond-false (is_utf8 (take (suc m) bs)) (suc m) (valid_len_up_to bs m) no))
    (front_utf8 bs m))
    (cases_Bool (is_utf8 (take (suc m) bs)))

valid_utf8 : (bs : List ℕ) → IsUtf8 (take (utf8_valid_len bs) bs)
unfolding utf8_valid_len
valid_utf8 bs = front_utf8 bs (length bs)

whole_utf8 : (bs : List ℕ) → length bs ≤ utf8_valid_len bs → IsUtf8 (utf8_lossy bs)
whole_utf8 bs whole =
    let utf8 = subst IsUtf8 (take_all (utf8_valid_len bs) bs whole) (valid_utf8 bs) in
    subst IsUtf8 (sym (utf8_lossy-IsUtf8 bs utf8)) utf8

replacement_utf8 : IsUtf8 replacement_bytes
unfolding encode
replacement_utf8 = IsUtf8-encode unshown refl

lossy_utf8_within : (n : ℕ) (bs : List ℕ) → length bs ≤ n → IsUtf8 (utf8_lossy bs)
lossy_utf8_within zero bs short = whole_utf8 bs (omega arith)
lossy_utf8_within (suc n) bs short = ⊎_elim
    (λ (part : utf8_valid_len bs < length bs).
    let faulty : ¬ (utf8_valid_len bs ≡ length bs) = omega arith in
    let shorter = length-after_first_chunk bs faulty in
    subst IsUtf8 (sym (utf8_lossy_step bs faulty))
    (IsUtf8-append (take (utf8_valid_len bs) bs) (replacement_bytes ++ utf8_lossy (after_first_chunk bs)) (valid_utf8 bs)
    (IsUtf8-append replacement_bytes (utf8_lossy (after_first_chunk bs)) replacement_utf8
    (lossy_utf8_within n (after_first_chunk bs) (omega arith)))))
    (λ whole. whole_utf8 bs whole)
    (cases_lt (utf8_valid_len bs) (length bs))

lossy_utf8 : (bs : List ℕ) → IsUtf8 (utf8_lossy bs)
lossy_utf8 bs = lossy_utf8_within (length bs) bs (omega arith)

-- ---- what is shown

pub shown_harmless : (name : List ℕ) → IsHarmless (shown name)
unfolding shown
shown_harmless name = record {
  pieces = map letter_text (chars (utf8_lossy name));
  harmless = harmless_letters (chars (utf8_lossy name)) (scalars_of (utf8_lossy name) (lossy_utf8 name));
  joined = sym (flat_map-map (λ (s : List ℕ). s) letter_text (chars (utf8_lossy name)));
}

pub shown_utf8 : (name : List ℕ) → IsUtf8 (shown name)
unfolding shown
shown_utf8 name = utf8_letters (chars (utf8_lossy name)) (scalars_of (utf8_lossy name) (lossy_utf8 name))
