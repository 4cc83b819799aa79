-- A curriculum pays 2 for each single period: its members conflict, so a period has at most one of its entries.
-- So a relaxed timetable costs exactly as much as its plan, and the best bound of plans is the best bound of the group.
use Rattle.std.proofs.Common.{◌≡◌, ℕ, ◌+◌, ◌-◌, ◌*◌, ◌≤◌, Bool, true, not, ◌&&◌, ◌||◌, List, refl, sym, ap, ◌∙◌, subst, arith, inl, inr, eq-eqb}
use Rattle.std.specs.Prelude.{Contains, ◌==◌, nat_lt, sum_by, count_by}
use Rattle.std.specs.List.{list_any, AllByRecursion}
use Rattle.std.proofs.lemmas.Bool.{and_parts, and_from, both_ways, cases_Bool, cases_lt, not-true, not_from_false, false_from_ne_true, or_cases, or_left, or_right, ltb-true}
use Rattle.tt_list_laws.specs.Words.{range_below}
use Rattle.tt_list_laws.proofs.Sums.{one_if, one_if_false, one_if-le, cond-le, sum_by-le, sum_by-same, sum_by-swap, sum_by-times, sum_by-tight, one_if_any, any_if_count, each, each_weaker, spread_up, once_at_least}
use Rattle.tt_list_laws.proofs.Members.{each_member, member_from_any, any_member, at_member}
use Rattle.tt_list_laws.proofs.Counting.{counted_once}
use Rattle.tt_instance.specs.Problem.{Problem}
use Rattle.tt_instance.specs.Cells.{slot, slot_of, next_to, all_slots, all_days, is_of, is_at}
use Rattle.tt_instance.specs.Courses.{in_curriculum, conflict}
use Rattle.tt_instance.specs.declared.cell.Cell.{Cell}
use Rattle.tt_instance.specs.declared.cell.Slot.{Slot}
use Rattle.tt_instance.proofs.Cells.{is_at-slot}
use Rattle.tt_instance.proofs.Fellows.{fellows}
use Rattle.tt_instance.proofs.Places.{any_slot, slots_summed}
use Rattle.tt_rules.specs.Soft.{is_isolated, compactness_cost}
use Rattle.tt_rules.proofs.Feasible.{in_periods}
use Rattle.tt_groups.specs.Group.{Group, group_cost, concerns, IsRelaxedTimetable}
use Rattle.tt_groups.specs.Plans.{week_of, is_taught, is_single, base_cost, spent}
use Rattle.tt_groups.proofs.Weeks.{in_week, entries_met, no_clash}
use Rattle.tt_groups.proofs.Projection.{member_own, taught_by, taught_entry, singles-le, courses_excess}
use Rattle.tt_groups.proofs.Lists.{sum_by-same_member}

module _ (p : Problem) (g : Group) (t : List Cell) (relaxed : IsRelaxedTimetable p g t) where
  -- a course of the group has at most one entry in a period
  once_a_period : (c : ℕ) → concerns p g c ≡ true → AllByRecursion (λ s. count_by (λ e. is_of c e && is_at s e) t ≤ 1) (all_slots p)
  once_a_period c own =
      let one : Slot → ℕ = λ s. one_if (list_any (λ e. is_of c e && is_at s e) t) in
      let many : Slot → ℕ = λ s. count_by (λ e. is_of c e && is_at s e) t in
      let tight = sum_by-tight one many (all_slots p) (each (λ s. one s ≤ many s) (λ s. one_if_any (λ e. is_of c e && is_at s e) t)
      (all_slots p)) (omega (arith, in_periods p t c, entries_met p g t relaxed c own)) in
      each_weaker (λ s. many s ≤ one s) (λ s. many s ≤ 1) (λ s h. let k = one_if-le (list_any (λ e. is_of c e && is_at s e) t) in
      omega arith) (all_slots p) tight

  module _ (q : ℕ) (own : (c : ℕ) → in_curriculum p q c ≡ true → concerns p g c ≡ true) where
    abbrev good : Cell → Bool
    good e = in_curriculum p q e.course && is_isolated p t q e

    -- a curriculum is not taught one period before or after an isolated entry of it
    none_beside : (x : Cell) → is_isolated p t q x ≡ true → (s : ℕ) → next_to (slot x.day s) (slot_of x) ≡ true
        → is_taught p (week_of t x.day) q s ≡ true → ⊥
    none_beside x alone s near taught =
        let y = taught_entry p g t relaxed q own x.day s taught in
        let beside : Cell → Bool = λ z. in_curriculum p q z.course && next_to (slot_of z) (slot_of x) in
        let there = any_member beside t y.0 y.1 (and_from (in_curriculum p q y.0.course) (next_to (slot_of y.0) (slot_of x)) y.2
        (subst (λ z. next_to z (slot_of x) ≡ true) (sym y.3) near)) in
        both_ways (list_any beside t) (not-true (list_any beside t) alone) there

    -- the period of an isolated entry of the curriculum is single
    isolated_single : (x : Cell) → Contains t x → good x ≡ true → is_single p (week_of t x.day) q x.period ≡ true
    isolated_single x m e =
        let s = x.period in
        let taught = is_taught p (week_of t x.day) q in
        let before = nat_lt 0 s && taught (s - 1) in
        let k = and_parts (in_curriculum p q x.course) (is_isolated p t q x) e in
        let day = eq-eqb x.day x.day refl in
        let none_after = false_from_ne_true (taught (s + 1)) (λ h. none_beside x k.1 (s + 1)
        (and_from (x.day == x.day) ((s + 1 == s + 1) || (s + 1 + 1 == s)) day
        (or_left (s + 1 == s + 1) (s + 1 + 1 == s) (eq-eqb (s + 1) (s + 1) refl))) h) in
        let none_before = false_from_ne_true before (λ h.
        let w = and_parts (nat_lt 0 s) (taught (s - 1)) h in
        let positive = ltb-true 0 s w.0 in
        none_beside x k.1 (s - 1) (and_from (x.day == x.day) ((s - 1 == s + 1) || (s - 1 + 1 == s)) day
        (or_right (s - 1 == s + 1) (s - 1 + 1 == s) (eq-eqb (s - 1 + 1) s (omega arith)))) w.1) in
        and_from (taught s && not before) (not (taught (s + 1)))
        (and_from (taught s) (not before) (taught_by p g t relaxed q own x m k.0) (not_from_false before none_before))
        (not_from_false (taught (s + 1)) none_after)

    -- a period has at most one isolated entry of the curriculum
    one_good : (s : Slot) → ((c : ℕ) → concerns p g c ≡ true → count_by (λ e. is_of c e && is_at s e) t ≤ 1)
        → count_by (λ e. good e && is_at s e) t ≤ 1
    one_good s once = elim (cases_lt 0 (count_by (λ e. good e && is_at s e) t)) [
      | inr h ↦ omega arith
      | inl h ↦
          let x = member_from_any (λ e. good e && is_at s e) t (any_if_count (λ e. good e && is_at s e) t h) in
          let a = and_parts (good x.0) (is_at s x.0) x.2 in
          let c = x.0.course in
          let mine = (and_parts (in_curriculum p q c) (is_isolated p t q x.0) a.0).0 in
          let same : (y : Cell) → Contains t y → (good y && is_at s y) ≡ true → (is_of c y && is_at s y) ≡ true = λ y m e.
          let b = and_parts (good y) (is_at s y) e in
          let its = (and_parts (in_curriculum p q y.course) (is_isolated p t q y) b.0).0 in
          let here = is_at-slot s y b.1 ∙ sym (is_at-slot s x.0 a.1) in
          and_from (is_of c y) (is_at s y) (elim (or_cases (y.course == c) (conflict p y.course c) (fellows p q y.course c its mine)) [
            | inl f ↦ f
            | inr f ↦ absurd (no_clash p g t relaxed y x.0 m x.1 (own y.course its) (own c mine)
                (and_from ((y.day == x.0.day) && (y.period == x.0.period)) (conflict p y.course c)
                (and_from (y.day == x.0.day) (y.period == x.0.period) (eq-eqb y.day x.0.day (ap (λ z. z.day) here))
                (eq-eqb y.period x.0.period (ap (λ z. z.period) here))) f))
          ]) b.1 in
          let up = sum_by-le (λ y. one_if (good y && is_at s y)) (λ y. one_if (is_of c y && is_at s y)) t
          (each_member (λ y. one_if (good y && is_at s y) ≤ one_if (is_of c y && is_at s y)) t
          (λ y m. cond-le (good y && is_at s y) (is_of c y && is_at s y) (same y m))) in
          omega (arith, up, once c (own c mine))
    ]

    -- there are no more isolated entries than single periods
    singles-ge : count_by good t ≤ sum_by (λ d. count_by (is_single p (week_of t d) q) (range_below p.periods)) (all_days p)
    singles-ge =
        let single : Slot → Bool = λ s. is_single p (week_of t s.day) q s.period in
        let days = slots_summed p (λ s. one_if (single s)) in
        let up = spread_up (λ e. one_if (good e)) (λ s e. one_if (good e && is_at s e)) t (all_slots p)
        (each_member (λ e. one_if (good e) ≤ sum_by (λ s. one_if (good e && is_at s e)) (all_slots p)) t
        (λ e m. elim (cases_Bool (good e)) [
          | inl h ↦
              let mine = (and_parts (in_curriculum p q e.course) (is_isolated p t q e) h).0 in
              let there = in_week p g t relaxed e.course (own e.course mine) e m (eq-eqb e.course e.course refl) in
              once_at_least (good e) (λ s. is_at s e) 1 (all_slots p) (any_slot p (λ s. is_at s e) e.day e.period there.day there.period
              (and_from (e.day == e.day) (e.period == e.period) (eq-eqb e.day e.day refl) (eq-eqb e.period e.period refl)))
          | inr h ↦ omega (arith, one_if_false (good e) h)
        ])) in
        let down = sum_by-le (λ s. count_by (λ e. good e && is_at s e) t) (λ s. one_if (single s)) (all_slots p)
        (each_member (λ s. count_by (λ e. good e && is_at s e) t ≤ one_if (single s)) (all_slots p) (λ s m.
        counted_once (count_by (λ e. good e && is_at s e) t) (single s)
        (one_good s (λ c mine. at_member (λ z. count_by (λ e. is_of c e && is_at z e) t ≤ 1) (all_slots p) s (once_a_period c mine) m))
        (λ h.
        let x = member_from_any (λ e. good e && is_at s e) t (any_if_count (λ e. good e && is_at s e) t h) in
        let a = and_parts (good x.0) (is_at s x.0) x.2 in
        subst (λ z. single z ≡ true) (is_at-slot s x.0 a.1) (isolated_single x.0 x.1 a.0)))) in
        omega (arith, days, up, down)

    -- a curriculum pays 2 for each single period of each day
    pub compactness-by_days : compactness_cost p t q ≡ sum_by (λ d. 2 * count_by (is_single p (week_of t d) q) (range_below p.periods))
        (all_days p)
    compactness-by_days =
        let singles : ℕ → ℕ = λ d. count_by (is_single p (week_of t d) q) (range_below p.periods) in
        let e = sum_by-times singles 2 (all_days p) in
        let f = sum_by-same (λ d. 2 * singles d) (λ d. singles d * 2) (all_days p) (λ d. omega arith) in
        omega (arith, e, f, singles-ge, singles-le p g t relaxed q own)

  -- a relaxed timetable costs exactly as much as its plan
  pub plan-is_cost : base_cost p g + spent p g (week_of t) p.days ≡ group_cost p g t
  plan-is_cost =
      let of_day : ℕ → ℕ → ℕ = λ d q. 2 * count_by (is_single p (week_of t d) q) (range_below p.periods) in
      let turned = sum_by-swap of_day (all_days p) g.curricula in
      let curricula = sum_by-same_member (compactness_cost p t) (λ q. sum_by (λ d. of_day d q) (all_days p)) g.curricula
      (λ q m. compactness-by_days q (member_own p g q m)) in
      omega (arith, turned, curricula, courses_excess p g t relaxed)
