-- States in which nothing is taught.
use Rattle.std.proofs.Common.{◌≡◌, ℕ, ◌+◌, ◌^◌, ◌<◌, Bool, false, ◌&&◌, List, [], length, get_or, ap, ◌∙◌, subst, inl, inr, arith}
use Rattle.std.specs.Prelude.{nat_le}
use Rattle.std.proofs.lemmas.Bool.{and_parts, both_ways, cases_lt}
use Rattle.std.proofs.lemmas.List.{get_or_past, length-replicate}
use Rattle.tt_list_laws.specs.Words.{range_below}
use Rattle.tt_list_laws.proofs.Beginnings.{read_default}
use Rattle.tt_list_laws.proofs.Members.{none_counted}
use Rattle.tt_instance.specs.Problem.{Problem}
use Rattle.tt_plans_slots.specs.Levels.{level}
use Rattle.tt_plans_slots.specs.Teaching.{Teaching, slot_count, taught, spare, taught_up_to, IsUntaught}
use Rattle.tt_plans_slots.specs.Inner.Spares.{AreEmpty, AreFull}
use Rattle.tt_plans_slots.specs.Inner.States.{teaching, IsTeaching}

module _ (p : Problem) (rows : List (List Bool)) (spares : List (List ℕ)) (empty : AreEmpty (slot_count p) (length p.courses) rows)
    (full : AreFull (slot_count p) (length p.rooms) spares) where
  abbrev here : Teaching
  here = teaching p rows spares

  none : (s c : ℕ) → taught here s c ≡ false
  none s c = elim (cases_lt s (slot_count p)) [
    | inl h ↦ ap (λ (r : List Bool). get_or r c false) (empty.each s h) ∙ read_default (length p.courses) c false
    | inr past ↦
        ap (λ (r : List Bool). get_or r c false) (get_or_past rows s [] (let e = empty.len in omega (arith, e, past)))
  ]

  no_count : (s k : ℕ) → taught_up_to here s k ≡ 0
  no_count s k = none_counted (λ c. taught here s c && nat_le (level p c) k) (range_below (length p.courses)) (λ c m e.
      both_ways (taught here s c) (none s c) (and_parts (taught here s c) (nat_le (level p c) k) e).0)

  pub untaught : IsUntaught here
  untaught = record {
    none = none;
    full = λ s k h l. let e = (full.each s h).each k l in omega (arith, no_count s k, e);
  }

  module _ (few : length p.courses < 2 ^ 31) (few_rooms : length p.rooms < 2 ^ 31) where
    fits : (s k : ℕ) → k < length p.rooms → taught_up_to here s k + spare here s k < 2 ^ 31
    fits s k l = elim (cases_lt s (slot_count p)) [
      | inl h ↦ let e = (full.each s h).each k l in omega (arith, no_count s k, e, l, few_rooms)
      | inr past ↦
          let e : spare here s k ≡ 0 =
          ap (λ (r : List ℕ). get_or r k 0) (get_or_past spares s [] (let e = full.len in omega (arith, e, past))) in
          omega (arith, no_count s k, e)
    ]

    pub untaught_state : IsTeaching here
    untaught_state = record {
      shaped = record {
        rows = empty.len;
        spares = full.len;
        courses = λ s h. ap length (empty.each s h) ∙ length-replicate (length p.courses) false;
        levels = λ s h. (full.each s h).len;
      };
      kept = record {
        apart = λ s c d e k. absurd (both_ways (taught here s c) (none s c) e);
        available = λ s c e. absurd (both_ways (taught here s c) (none s c) e);
      };
      few = few;
      fits = fits;
    }

-- numbers that were computed are those of the instance
pub empty_of : (p : Problem) (slots courses : ℕ) (rows : List (List Bool)) → slots ≡ slot_count p → courses ≡ length p.courses
    → AreEmpty slots courses rows → AreEmpty (slot_count p) (length p.courses) rows
empty_of p slots courses rows e k empty = subst (λ n. AreEmpty n (length p.courses) rows) e (subst (λ m. AreEmpty slots m rows) k empty)

pub full_of : (p : Problem) (slots rooms : ℕ) (rows : List (List ℕ)) → slots ≡ slot_count p → rooms ≡ length p.rooms
    → AreFull slots rooms rows → AreFull (slot_count p) (length p.rooms) rows
full_of p slots rooms rows e k full = subst (λ n. AreFull n (length p.rooms) rows) e (subst (λ m. AreFull slots m rows) k full)
