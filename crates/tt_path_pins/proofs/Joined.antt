-- Numbers that are added to sets.
use Rattle.std.proofs.Common.{◌≡◌, ℕ, ◌+◌, ◌<◌, Bool, true, false, ◌&&◌, ◌||◌, List, [], ◌∷◌, ◌++◌, take, length, get_or, refl, sym, ap, ◌∙◌, inl, inr, eq-eqb, ne_eqb}
use Rattle.std.specs.Prelude.{◌==◌}
use Rattle.std.proofs.Math.Bool.{or-false}
use Rattle.std.proofs.lemmas.Bool.{cases_eq}
use Rattle.std.proofs.lemmas.List.{take_more}
use Rattle.std.proofs.lemmas.List.Folds.{list_any-append}
use Rattle.tt_instance.specs.Problem.{Problem}
use Rattle.tt_bits.specs.Inner.Bits.{has_bit}
use Rattle.tt_path_pins.specs.Inner.Sets.{has_at, Puts}
use Rattle.tt_path_pins.specs.Inner.Tables.{Adds, is_day_of, day_place}

nothing_more : (a t : Bool) → t ≡ false → a ≡ (a || t)
nothing_more a t e = sym (ap (λ b. a || b) e ∙ or-false a)

pub puts_adds : (old new : List ℕ) (place number : ℕ) → Puts old place number new → Adds old (λ i. i == place) number new
puts_adds old new place number h = record {
  len = h.len;
  each = λ i s l. elim (cases_eq i place) [
    | inl e ↦ ap (λ j. has_at new j s) e ∙ h.here s l ∙ ap (λ j. has_at old j s || (s == number)) (sym e)
        ∙ ap (λ b. has_at old i s || (b && (s == number))) (sym (eq-eqb i place e))
    | inr e ↦ ap (λ w. has_bit w s) (h.others i e) ∙ nothing_more (has_at old i s) ((i == place) && (s == number))
        (ap (λ b. b && (s == number)) (ne_eqb i place e))
  ];
}

one_test : (x t u e : Bool) → ((x || (t && e)) || (u && e)) ≡ (x || ((t || u) && e))
one_test true t u e = refl
one_test false true true true = refl
one_test false true false true = refl
one_test false true true false = refl
one_test false true false false = refl
one_test false false u e = refl

pub adds_both : (a b d : List ℕ) (t u : ℕ → Bool) (number : ℕ) → Adds a t number b → Adds b u number d → Adds a (λ i. t i || u i) number d
adds_both a b d t u number f g = record {
  len = g.len ∙ f.len;
  each = λ i s l. g.each i s l ∙ ap (λ x. x || (u i && (s == number))) (f.each i s l) ∙ one_test (has_at a i s) (t i) (u i) (s == number);
}

pub adds_none : (p : Problem) (a : List ℕ) (d number : ℕ) → Adds a (is_day_of p [] d) number a
adds_none p a d number = record {
  len = refl;
  each = λ i s l. sym (or-false (has_at a i s));
}

day_more : (p : Problem) (qs : List ℕ) (d k q i : ℕ) → k < length qs → q ≡ get_or qs k 0 → is_day_of p (take (k + 1) qs) d i ≡
    (is_day_of p (take k qs) d i || (i == day_place p (length p.courses + q) d))
day_more p qs d k q i h e =
    ap (λ l. is_day_of p l d i) (take_more qs k 0 h ∙ ap (λ n. take k qs ++ n ∷ []) (sym e))
    ∙ list_any-append (λ n. i == day_place p (length p.courses + n) d) (take k qs) (q ∷ [])
    ∙ ap (λ b. is_day_of p (take k qs) d i || b) (or-false (i == day_place p (length p.courses + q) d))

-- another curriculum
pub adds_more : (p : Problem) (qs : List ℕ) (d k q number : ℕ) (a b e : List ℕ) → k < length qs → q ≡ get_or qs k 0
    → Adds a (is_day_of p (take k qs) d) number b → Adds b (λ i. i == day_place p (length p.courses + q) d) number e
    → Adds a (is_day_of p (take (k + 1) qs) d) number e
adds_more p qs d k q number a b e h is f g =
    let both = adds_both a b e (is_day_of p (take k qs) d) (λ i. i == day_place p (length p.courses + q) d) number f g in
    record {
      len = both.len;
      each = λ i s l. both.each i s l ∙ ap (λ t. has_at a i s || (t && (s == number))) (sym (day_more p qs d k q i h is));
    }
