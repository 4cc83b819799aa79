-- The rules of periods after a course was added to a slot or removed from one.
use Rattle.std.proofs.Common.{◌≡◌, ℕ, ◌/◌, ◌%◌, Bool, true, false, ◌&&◌, ◌||◌, sym, ap, ◌∙◌, inl, inr, eqb-true}
use Rattle.std.specs.Prelude.{◌==◌}
use Rattle.std.proofs.lemmas.Bool.{and_parts, both_ways, false_from_ne_true, or_cases}
use Rattle.tt_instance.specs.Problem.{Problem}
use Rattle.tt_instance.specs.Courses.{conflict, unavailable}
use Rattle.tt_instance.proofs.Exclusion.{conflict-itself, conflict-turn}
use Rattle.tt_plans_slots.specs.Teaching.{KeepsPeriods}

no_conflict-turn : (p : Problem) (a b : ℕ) → conflict p a b ≡ false → conflict p b a ≡ false
no_conflict-turn p a b e = false_from_ne_true (conflict p b a) (λ t. both_ways (conflict p a b) e (conflict-turn p b a t))

module _ (p : Problem) (old new : ℕ → ℕ → Bool) (c s : ℕ) (kept : KeepsPeriods p old)
    (apart : (d : ℕ) → old s d ≡ true → conflict p c d ≡ false)
    (available : unavailable p c (s / p.periods) (s % p.periods) ≡ false)
    (adds : (t d : ℕ) → new t d ≡ (old t d || ((t == s) && (d == c)))) where
  -- a course that conflicts with none of a slot is added to it
  pub kept_with : KeepsPeriods p new
  kept_with = record {
    apart = λ t a b ta tb. elim (or_cases (old t a) ((t == s) && (a == c)) (sym (adds t a) ∙ ta)) [
      | inl a_old ↦ elim (or_cases (old t b) ((t == s) && (b == c)) (sym (adds t b) ∙ tb)) [
        | inl b_old ↦ kept.apart t a b a_old b_old
        | inr b_new ↦
            let e = and_parts (t == s) (b == c) b_new in
            let slot = eqb-true t s e.0 in
            let here : old s a ≡ true = ap (λ i. old i a) (sym slot) ∙ a_old in
            ap (conflict p a) (eqb-true b c e.1) ∙ no_conflict-turn p c a (apart a here)
      ]
      | inr a_new ↦
          let e = and_parts (t == s) (a == c) a_new in
          let slot = eqb-true t s e.0 in
          ap (λ i. conflict p i b) (eqb-true a c e.1) ∙ elim (or_cases (old t b) ((t == s) && (b == c)) (sym (adds t b) ∙ tb)) [
            | inl b_old ↦ apart b (ap (λ i. old i b) (sym slot) ∙ b_old)
            | inr b_new ↦ ap (conflict p c) (eqb-true b c (and_parts (t == s) (b == c) b_new).1) ∙ conflict-itself p c
          ]
    ];
    available = λ t a ta. elim (or_cases (old t a) ((t == s) && (a == c)) (sym (adds t a) ∙ ta)) [
      | inl a_old ↦ kept.available t a a_old
      | inr a_new ↦
          let e = and_parts (t == s) (a == c) a_new in
          ap (λ i. unavailable p i (t / p.periods) (t % p.periods)) (eqb-true a c e.1)
          ∙ ap (λ i. unavailable p c (i / p.periods) (i % p.periods)) (eqb-true t s e.0) ∙ available
    ];
  }

-- courses are only removed
pub kept_without : (p : Problem) (old new : ℕ → ℕ → Bool) → KeepsPeriods p old → ((t d : ℕ) → new t d ≡ true → old t d ≡ true)
    → KeepsPeriods p new
kept_without p old new kept fewer = record {
  apart = λ t a b ta tb. kept.apart t a b (fewer t a ta) (fewer t b tb);
  available = λ t a ta. kept.available t a (fewer t a ta);
}
