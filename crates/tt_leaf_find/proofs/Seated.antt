-- A course with at least as many periods that seat its students as lectures has no claim on seats.
use Rattle.std.proofs.Common.{◌≡◌, ℕ, ◌+◌, ◌≤◌, ◌<◌, Bool, true, take, get_or, List, [], ◌∷◌, ◌++◌, length, min, Option, Some, None, cond, refl, ap, ◌∙◌, arith, inl, inr, eqb-true, lt-ltb, ltb-true}
use Rattle.std.specs.Prelude.{◌==◌, nat_lt, nat_le, count_by}
use Rattle.std.proofs.lemmas.Bool.{and_parts, cases_lt}
use Rattle.std.proofs.lemmas.List.Sums.{sum_by-take-le}
use Rattle.tt_list_laws.proofs.Sums.{sum_by-le, cond-le, each}
use Rattle.tt_list_laws.proofs.Finding.{find_passes}
use Rattle.tt_list_laws.proofs.Given.{count_in, count_by-filter_map}
use Rattle.tt_instance.specs.Problem.{Problem}
use Rattle.tt_instance.specs.Cells.{all_slots}
use Rattle.tt_instance.specs.Courses.{lectures}
use Rattle.tt_instance.specs.declared.cell.Slot.{Slot}
use Rattle.tt_instance.proofs.Slots.{slots_count_yes}
use Rattle.tt_path.specs.Live.{least_excess}
use Rattle.tt_path.specs.declared.facts.Fact.{Fact}
use Rattle.tt_leaf_rules.specs.Claims.{value_of}
use Rattle.tt_leaf.specs.declared.leaf.Claim.TheVariants.{Capacity}
use Rattle.tt_leaf_find.specs.Best.{is_kth, least_excesses, price_of, at_price, capacity_claims, worth}
use Rattle.tt_leaf_find.specs.Inner.Seated.{is_nothing, is_seated, seated_periods}

-- a period that passes and the earlier periods that pass are among all that pass
pub passes_among : (p q : Problem) (t : Slot → Bool) (i total : ℕ) (s : Slot) → q ≡ p → i < length (all_slots q)
    → s ≡ get_or (all_slots q) i s → total ≡ count_by t (take i (all_slots p)) → true ≡ t s → total + 1 ≤ count_by t (all_slots p)
passes_among p q t i total s same h is e pass =
    let k = slots_count_yes p q t i total (total + 1) s same h is e pass refl in
    omega (arith, k, sum_by-take-le (λ z. cond (t z) 1 0) (all_slots p) (i + 1))

seated_below : (u : ℕ) → 0 < u → (o : Option ℕ) → cond (is_nothing o) 1 0 ≤ count_in (λ m. nat_lt m u) o
seated_below u h None = omega arith
seated_below u h (Some n) = cond-le (n == 0) (nat_lt n u) (λ e. let nothing = eqb-true n 0 e in lt-ltb n u (omega arith))

module _ (p : Problem) (path : List Fact) (c : ℕ) where
  seated-le : (u : ℕ) → 0 < u → seated_periods p path c ≤ count_by (λ m. nat_lt m u) (least_excesses p path c)
  seated-le u h =
      let seated : Slot → ℕ = λ s. cond (is_seated p path c s) 1 0 in
      let below : Slot → ℕ = λ s. count_in (λ m. nat_lt m u) (least_excess p path c s) in
      let k = sum_by-le seated below (all_slots p) (each (λ s. seated s ≤ below s) (λ s. seated_below u h (least_excess p path c s))
      (all_slots p)) in
      omega (arith, k, count_by-filter_map (least_excess p path c) (λ m. nat_lt m u) (all_slots p))

  price_nothing : lectures p c ≤ seated_periods p path c → (u : ℕ) → price_of p path c ≡ Some u → u ≡ 0
  price_nothing h u e = elim (cases_lt 0 u) [
    | inl l ↦
        let ns = least_excesses p path c in
        let k = min (lectures p c) (length ns) in
        let a = and_parts (nat_lt (count_by (λ m. nat_lt m u) ns) k) (nat_le k (count_by (λ m. nat_le m u) ns))
        (find_passes (is_kth ns k) ns u e) in
        let at_most = ltb-true (count_by (λ m. nat_lt m u) ns) k a.0 in
        absurd (omega (arith, at_most, seated-le u l))
    | inr l ↦ omega arith
  ]

  pub no_claim : lectures p c ≤ seated_periods p path c → worth p path (capacity_claims p path (c ∷ [])) ≡ []
  no_claim h = by_price (price_of p path c) (price_nothing h)
    where
      worthless : value_of p path (Capacity c 0) ≡ 0
      worthless = omega arith

      by_price : (o : Option ℕ) → ((u : ℕ) → o ≡ Some u → u ≡ 0) → worth p path (at_price c o ++ []) ≡ []
      by_price None f = refl
      by_price (Some u) f =
          ap (λ v. worth p path (Capacity c v ∷ [])) (f u refl) ∙ ap (λ v. cond (nat_lt 0 v) (Capacity c 0 ∷ []) []) worthless
