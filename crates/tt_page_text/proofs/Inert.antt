-- The text of a name in a string is inert.
use Rattle.std.proofs.Common.{◌≡◌, ℕ, Bool, true, false, cond, List, [], ◌∷◌, map, refl, sym, inl, inr}
use Rattle.std.specs.Prelude.{◌==◌, codes, encode_utf8}
use Rattle.std.specs.Char.{is_control}
use Rattle.std.specs.Str.{chars}
use Rattle.std.specs.Str.Lossy.{utf8_lossy}
use Rattle.std.proofs.lemmas.List.Folds.{flat_map-map}
use Rattle.tt_page_text.specs.Shown.{unshown}
use Rattle.tt_page_text.specs.Quoted.{is_special, quoted_letter, quoted, IsQuotedPiece, AreQuoted, IsQuoted}

ordinary : (d : ℕ) → is_special d ≡ false → is_control d ≡ false → IsQuotedPiece (encode_utf8 d)
ordinary d special control = inl (record { letter = d; no_special = special; no_control = control; spelled = refl })

by_tests : (c : ℕ) (a b d e f g h : Bool) → (c == 34) ≡ a → (c == 38) ≡ b → (c == 39) ≡ d → (c == 60) ≡ e → (c == 62) ≡ f → (c == 92) ≡ g
    → is_control c ≡ h
    → IsQuotedPiece (cond a (codes "\\22 ")
    (cond b (codes "\\26 ")
    (cond d (codes "\\27 ")
    (cond e (codes "\\3c ") (cond f (codes "\\3e ") (cond g (codes "\\5c ") (cond h (encode_utf8 unshown) (encode_utf8 c))))))))
by_tests c true b d e f g h i j k l m n o = inr refl
by_tests c false true d e f g h i j k l m n o = inr refl
by_tests c false false true e f g h i j k l m n o = inr refl
by_tests c false false false true f g h i j k l m n o = inr refl
by_tests c false false false false true g h i j k l m n o = inr refl
by_tests c false false false false false true h i j k l m n o = inr refl
by_tests c false false false false false false true i j k l m n o = ordinary unshown refl refl
by_tests c false false false false false false false i j k l m n o = ordinary c (rw (i, j, k, l, m, n) refl) o

of_letter : (c : ℕ) → IsQuotedPiece (quoted_letter c)
unfolding quoted_letter
of_letter c = by_tests c (c == 34) (c == 38) (c == 39) (c == 60) (c == 62) (c == 92) (is_control c) refl refl refl refl refl refl refl

quoted_pieces : (cs : List ℕ) → AreQuoted (map quoted_letter cs)
quoted_pieces [] = tt
quoted_pieces (c ∷ cs) = (of_letter c, quoted_pieces cs)

pub quoted_inert : (name : List ℕ) → IsQuoted (quoted name)
unfolding quoted
quoted_inert name = record {
  pieces = map quoted_letter (chars (utf8_lossy name));
  quoted = quoted_pieces (chars (utf8_lossy name));
  joined = sym (flat_map-map (λ (s : List ℕ). s) quoted_letter (chars (utf8_lossy name)));
}
