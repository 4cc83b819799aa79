-- Tables that were stored before each fact.
use Rattle.std.proofs.Common.{◌≡◌, ℕ, ◌+◌, ◌<◌, ◌≤◌, List, [], ◌∷◌, ◌++◌, length, take, refl, sym, ap, ◌∙◌, arith, inl, inr, subst, length-append}
use Rattle.std.specs.Prelude.{slice_index_or}
use Rattle.std.proofs.lemmas.List.{take-append-le, get_or_push, get_or_append_left}
use Rattle.std.proofs.lemmas.Bool.{cases_lt}
use Rattle.std.proofs.Math.Seq.{take-append_seam}
use Rattle.tt_path.specs.declared.facts.Fact.{Fact}
use Rattle.tt_path_pins.specs.Inner.Earlier.{AreEarlier}

moved : (Shows : List Fact → List ℕ → Type 0) (a b : List Fact) (v w : List ℕ) → a ≡ b → v ≡ w → Shows a v → Shows b w
moved Shows a b v w q r s = subst (λ x. Shows b x) r (subst (λ x. Shows x v) q s)

module _ (Shows : List Fact → List ℕ → Type 0) (facts : List Fact) (f : Fact) (earlier : List (List ℕ)) (words : List ℕ) where
  pub earlier_popped : AreEarlier Shows (facts ++ f ∷ []) (earlier ++ words ∷ []) → Shows facts words × AreEarlier Shows facts earlier
  earlier_popped a =
      let n : length earlier ≡ length facts = omega (arith, a.len, length-append earlier (words ∷ []), length-append facts (f ∷ [])) in
      let more : length (facts ++ f ∷ []) ≡ length facts + 1 = length-append facts (f ∷ []) in (
        moved Shows _ facts _ words (take-append_seam facts (f ∷ [])) (ap (λ i. slice_index_or (earlier ++ words ∷ []) i []) (sym n)
            ∙ get_or_push earlier words [] (length earlier) refl) (a.each (length facts) (omega arith)),
        record {
          len = n;
          each = λ i h. let k : i < length earlier = omega arith in let le : i ≤ length facts = omega arith in
              moved Shows _ (take i facts) _ (slice_index_or earlier i []) (take-append-le i facts (f ∷ []) le)
              (get_or_append_left earlier (words ∷ []) [] i k) (a.each i (omega arith));
        },
      )

  pub earlier_pushed : Shows facts words → AreEarlier Shows facts earlier → AreEarlier Shows (facts ++ f ∷ []) (earlier ++ words ∷ [])
  earlier_pushed t a = record {
    len = length-append earlier (words ∷ []) ∙ ap (λ n. n + 1) a.len ∙ sym (length-append facts (f ∷ []));
    each = λ i h. elim (cases_lt i (length facts)) [
      | inl l ↦ let k : i < length earlier = omega (arith, a.len) in let le : i ≤ length facts = omega arith in
          moved Shows (take i facts) _ (slice_index_or earlier i []) _ (sym (take-append-le i facts (f ∷ []) le))
          (sym (get_or_append_left earlier (words ∷ []) [] i k)) (a.each i l)
      | inr l ↦ let e : length facts ≡ i = omega (arith, length-append facts (f ∷ [])) in
          subst (λ k. Shows (take k (facts ++ f ∷ [])) (slice_index_or (earlier ++ words ∷ []) k [])) e
          (moved Shows facts _ words _ (sym (take-append_seam facts (f ∷ [])))
          (sym (ap (λ k. slice_index_or (earlier ++ words ∷ []) k []) (sym a.len)
          ∙ get_or_push earlier words [] (length earlier) refl)) t)
    ];
  }
