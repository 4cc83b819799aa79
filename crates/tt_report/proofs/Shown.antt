-- The text shown for a name, chunk by chunk: each is text, with bytes behind it that are none.
use Rattle.std.proofs.Common.{◌≡◌, ℕ, Bool, List, [], ◌∷◌, ◌++◌, length, refl, sym, ap, ◌∙◌, subst, append_assoc}
use Rattle.std.specs.Prelude.{flat_map, IsUtf8, Option}
use Rattle.std.specs.Str.{chars}
use Rattle.std.specs.Str.Lossy.{utf8_lossy, replacement_bytes}
use Rattle.std.proofs.lemmas.List.{append-nil}
use Rattle.std.proofs.lemmas.Grind.{flat_map-append}
use Rattle.std.proofs.lemmas.Str.{chars-append, chars-nil, utf8_lossy_empty}
use Rattle.tt_report.specs.Puts.{Puts}
use Rattle.tt_report.specs.declared.output.Output.{Output}
use Rattle.tt_report.proofs.Putting.{puts_both, puts_nothing}
use Rattle.tt_report.specs.Names.{letter_text, shown}

-- the text of all letters of a text
abbrev pub letters_text : List ℕ → List ℕ
letters_text bs = flat_map letter_text (chars bs)

shown_letters : (name : List ℕ) → letters_text (utf8_lossy name) ≡ shown name
unfolding shown
shown_letters name = refl

chars-replacement : (bs : List ℕ) → chars (replacement_bytes ++ bs) ≡ 0xFFFD ∷ chars bs
unfolding chars
chars-replacement [] = refl
chars-replacement (b ∷ bs) = refl

letters-append : (xs ys : List ℕ) → IsUtf8 xs → letters_text (xs ++ ys) ≡ letters_text xs ++ letters_text ys
letters-append xs ys utf8 = ap (flat_map letter_text) (chars-append xs ys utf8) ∙ flat_map-append letter_text (chars xs) (chars ys)

-- another letter
letters_more : (cs : List ℕ) (c : ℕ) → flat_map letter_text (cs ++ c ∷ []) ≡ flat_map letter_text cs ++ letter_text c
letters_more cs c = flat_map-append letter_text cs (c ∷ []) ∙ ap (λ z. flat_map letter_text cs ++ z) (append-nil (letter_text c))

module _ {W : Type 0} (C : W → Option (List ℕ)) (F : W → Bool) where
  -- another letter was put
  pub letter_put : (first old new : Output W) (cs : List ℕ) (c : ℕ) → Puts C F first old (flat_map letter_text cs)
      → Puts C F old new (letter_text c) → Puts C F first new (flat_map letter_text (cs ++ c ∷ []))
  letter_put first old new cs c before more =
      subst (Puts C F first new) (sym (letters_more cs c))
      (puts_both C F first old new (flat_map letter_text cs) (letter_text c) before more)

  -- the text of the chunks before the bytes that are left
  pub record NamePut (first now : Output W) (name rest : List ℕ) : Type 0 where
    pub text : List ℕ
    pub puts : Puts C F first now text
    pub whole : text ++ letters_text (utf8_lossy rest) ≡ letters_text (utf8_lossy name)

  -- no chunk has been put
  pub name_begun : (first : Output W) (name rest : List ℕ) → rest ≡ name → NamePut first first name rest
  name_begun first name rest is = record { text = []; puts = puts_nothing C F first; whole = ap (λ z. letters_text (utf8_lossy z)) is }

  -- a chunk with bytes that are no text was put
  pub chunk_put : (first old mid new : Output W) (name rest valid more : List ℕ) → IsUtf8 valid
      → utf8_lossy rest ≡ valid ++ (replacement_bytes ++ utf8_lossy more) → Puts C F old mid (letters_text valid)
      → Puts C F mid new (letter_text 0xFFFD) → NamePut first old name rest → NamePut first new name more
  chunk_put first old mid new name rest valid more utf8 is letters last before =
      let a = letters_text valid in
      let b = letter_text 0xFFFD in
      let z = letters_text (utf8_lossy more) in
      let whole : letters_text (utf8_lossy rest) ≡ (a ++ b) ++ z =
      ap letters_text is ∙ letters-append valid (replacement_bytes ++ utf8_lossy more) utf8
      ∙ ap (λ (cs : List ℕ). a ++ flat_map letter_text cs) (chars-replacement (utf8_lossy more)) ∙ sym (append_assoc a b z) in
      record {
        text = before.text ++ (a ++ b);
        puts = puts_both C F first old new before.text (a ++ b) before.puts (puts_both C F old mid new a b letters last);
        whole = append_assoc before.text (a ++ b) z ∙ ap (λ y. before.text ++ y) (sym whole) ∙ before.whole;
      }

  -- the last chunk was put, which is text
  pub last_chunk_put : (first old new : Output W) (name rest valid more : List ℕ) → IsUtf8 valid
      → utf8_lossy rest ≡ valid ++ utf8_lossy more → Puts C F old new (letters_text valid) → NamePut first old name rest
      → NamePut first new name more
  last_chunk_put first old new name rest valid more utf8 is letters before =
      let a = letters_text valid in
      let z = letters_text (utf8_lossy more) in
      let whole = ap letters_text is ∙ letters-append valid (utf8_lossy more) utf8 in
      record {
        text = before.text ++ a;
        puts = puts_both C F first old new before.text a before.puts letters;
        whole = append_assoc before.text a z ∙ ap (λ y. before.text ++ y) (sym whole) ∙ before.whole;
      }

  -- all chunks were put
  pub name_put : (first now : Output W) (name rest : List ℕ) → length rest ≡ 0 → NamePut first now name rest
      → Puts C F first now (shown name)
  name_put first now name rest none before =
      let empty : letters_text (utf8_lossy rest) ≡ [] = ap letters_text (utf8_lossy_empty rest none) ∙ ap (flat_map letter_text) chars-nil
      in
      subst (Puts C F first now)
      (sym (append-nil before.text) ∙ ap (λ z. before.text ++ z) (sym empty) ∙ before.whole ∙ shown_letters name) before.puts
