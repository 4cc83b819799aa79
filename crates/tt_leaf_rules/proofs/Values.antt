-- The value of a claim is at most the part of the cost that it claims.
use Rattle.std.proofs.Common.{◌≡◌, ℕ, ◌+◌, ◌-◌, ◌*◌, ◌≤◌, Bool, true, false, cond, ◌&&◌, List, [], ◌∷◌, map, length, Option, Some, None, refl, sym, ap, subst, arith, inl, inr, eqb-true, mul-le-mul_right}
use Rattle.std.specs.Prelude.{Contains, ◌==◌, max, sum_by, count_by, filter}
use Rattle.std.specs.List.{list_any}
use Rattle.std.proofs.lemmas.Bool.{and_parts, and_from, false_from_ne_true, not-true, both_ways, not_from_false}
use Rattle.tt_instance.specs.Problem.{Problem}
use Rattle.tt_instance.specs.Cells.{slot_of, next_to, cell, all_slots, all_rooms, all_days, is_of, is_at, is_in, is_on}
use Rattle.tt_instance.specs.Courses.{members, in_curriculum, excess}
use Rattle.tt_instance.specs.declared.cell.Slot.{Slot}
use Rattle.tt_rules.specs.Hard.{entries_of}
use Rattle.tt_rules.specs.Soft.{days_of, days_cost, is_isolated, compactness_cost, stability_cost}
use Rattle.tt_rules.specs.Score.{IsFeasible}
use Rattle.tt_path.specs.Facts.{Fits}
use Rattle.tt_path.specs.Live.{is_live, live_period, live_day, least_with, least, least_excess, pinned, pinned_room}
use Rattle.tt_leaf_rules.specs.Claims.{RoomCapacity}
use Rattle.tt_leaf_rules.specs.Claims.{part, greatest, discount, is_alone, value_of}
use Rattle.tt_leaf_rules.specs.Inner.Nested.{above_least, discounts}
use Rattle.tt_instance.specs.declared.cell.Cell.{Cell}
use Rattle.tt_path.specs.declared.facts.Who.TheVariants.{Curriculum}
use Rattle.tt_path.specs.declared.facts.Fact.{Fact}
use Rattle.tt_leaf.specs.declared.leaf.Claim.TheVariants.{Capacity, Days, Compact, Stable}
use Rattle.tt_list_laws.proofs.Sums.{one_if, cond-le, sum_by-le, sum_by-same, sum_by-plus, each, each_weaker, one_if_any, spread_up, spread_down, once_at_least, once_at_most, sum_by-at_places}
use Rattle.tt_instance.proofs.Places.{any_slot, count_slots}
use Rattle.tt_list_laws.proofs.Numbers.{count_below}
use Rattle.tt_list_laws.proofs.Members.{each_member, any_member, member_from_any, member_cases, number_below}
use Rattle.tt_list_laws.proofs.Counting.{cond-le_plus, cond-same}
use Rattle.tt_rules.proofs.Feasible.{in_range}
use Rattle.tt_rules.proofs.Feasible.{lectures_met, once_a_period}
use Rattle.tt_leaf_rules.proofs.Live.{live_entry, live_period_of, live_day_of, pinned_entry, pinned_room_entry}
use Rattle.tt_instance.proofs.Cells.{is_at-slot, at_itself}

-- ---- discounts

-- a price is covered by any number of the list that passes, plus the greatest discount of the numbers that pass
price_covered : (u : ℕ) (f : ℕ → ℕ) (q : ℕ → Bool) (xs : List ℕ) (x : ℕ) → Contains xs x → q x ≡ true
    → u ≤ f x + greatest (map (λ y. u - f y) (filter q xs))
price_covered u f q [] x h e = absurd (omega (arith, h.1))
price_covered u f q (z ∷ xs) x h e = by_test (q z) refl (λ m. price_covered u f q xs x m e)
  where
    by_test : (b : Bool) → q z ≡ b → (Contains xs x → u ≤ f x + greatest (map (λ y. u - f y) (filter q xs)))
        → u ≤ f x + greatest (map (λ y. u - f y) (cond (q z) (z ∷ filter q xs) (filter q xs)))
    by_test true b later = rw b (elim (member_cases z xs x h) [
      | inl ex ↦ subst (λ y. u ≤ f y + max (u - f z) (greatest (map (λ y. u - f y) (filter q xs)))) ex (omega arith)
      | inr m ↦ omega (arith, later m)
    ])
    by_test false b later = rw b (elim (member_cases z xs x h) [
      | inl ex ↦ absurd (both_ways (q z) b (subst (λ y. q y ≡ true) (sym ex) e))
      | inr m ↦ later m
    ])

-- the greatest discount is that of the least number
greatest_above : (u : ℕ) (f : ℕ → ℕ) (xs : List ℕ) → above_least u (least (map f xs)) ≡ greatest (map (λ x. u - f x) xs)
greatest_above u f [] = refl
greatest_above u f (x ∷ xs) = by_rest (least (map f xs)) (greatest (map (λ y. u - f y) xs)) (greatest_above u f xs)
  where
    by_rest : (o : Option ℕ) (n : ℕ) → above_least u o ≡ n → u - least_with (f x) o ≡ max (u - f x) n
    by_rest None n e = omega arith
    by_rest (Some m) n e = omega arith

-- the amounts by which a price is above the least excess of each period add up to its discounts
pub discounts_are : (p : Problem) (path : List Fact) (c u : ℕ) → discounts p path c u ≡ sum_by (discount p path c u) (all_slots p)
discounts_are p path c u =
    sum_by-same (λ s. above_least u (least_excess p path c s)) (discount p path c u) (all_slots p) (λ s.
    greatest_above u (excess p c) (filter (λ r. is_live p path (cell c r s)) (all_rooms p)))

module _ (p : Problem) (t : List Cell) (ok : IsFeasible p t) (path : List Fact) (fits : Fits p t path) where
  -- ---- Days

  days_at_most : (c : ℕ) → days_of p t c ≤ entries_of t c
  days_at_most c =
      let one : ℕ → ℕ = λ d. one_if (list_any (λ e. is_of c e && is_on d e) t) in
      let many : ℕ → ℕ = λ d. count_by (λ e. is_of c e && is_on d e) t in
      let at_most = spread_down (λ e. one_if (is_of c e)) (λ d e. one_if (is_of c e && is_on d e)) t (all_days p)
      (each (λ e. sum_by (λ d. one_if (is_of c e && is_on d e)) (all_days p) ≤ one_if (is_of c e))
      (λ e. once_at_most (is_of c e) (λ d. is_on d e) 1 (all_days p) (count_below e.day p.days)) t) in
      let k = sum_by-le one many (all_days p) (each (λ d. one d ≤ many d) (λ d. one_if_any (λ e. is_of c e && is_on d e) t) (all_days p)) in
      omega arith

  pub days_live : (c : ℕ) → days_of p t c ≤ count_by (live_day p path c) (all_days p)
  days_live c =
      sum_by-le (λ d. one_if (list_any (λ e. is_of c e && is_on d e) t)) (λ d. one_if (live_day p path c d)) (all_days p)
      (each (λ d. one_if (list_any (λ e. is_of c e && is_on d e) t) ≤ one_if (live_day p path c d)) (λ d.
      cond-le (list_any (λ e. is_of c e && is_on d e) t) (live_day p path c d) (λ h.
      let w = member_from_any (λ e. is_of c e && is_on d e) t h in
      let a = and_parts (is_of c w.0) (is_on d w.0) w.2 in
      subst (λ i. live_day p path c i ≡ true) (eqb-true w.0.day d a.1)
      (subst (λ i. live_day p path i w.0.day ≡ true) (eqb-true w.0.course c a.0) (live_day_of p t ok path fits w.0 w.1))))
      (all_days p))

  pub days_sound : (c : ℕ) → value_of p path (Days c) ≤ days_cost p t c
  days_sound c =
      let a = days_at_most c in
      let b = days_live c in
      let l = lectures_met p t ok c in
      omega arith

  -- ---- Stable

  pub stable_sound : (c : ℕ) → value_of p path (Stable c) ≤ stability_cost p t c
  stable_sound c =
      let k = sum_by-le (λ r. one_if (pinned_room p path c r)) (λ r. one_if (list_any (λ e. is_of c e && is_in r e) t)) (all_rooms p)
      (each (λ r. one_if (pinned_room p path c r) ≤ one_if (list_any (λ e. is_of c e && is_in r e) t)) (λ r.
      cond-le (pinned_room p path c r) (list_any (λ e. is_of c e && is_in r e) t) (λ h.
      let w = pinned_room_entry p t ok path fits c r h in
      any_member (λ e. is_of c e && is_in r e) t w.0 w.1 (and_from (is_of c w.0) (is_in r w.0) w.2 w.3)))
      (all_rooms p)) in
      omega arith

  -- ---- Compact

  -- a neighbour period of an entry of the curriculum isn't alone: the entry's own period has a live cell of a member
  neighbour_live : (q : ℕ) (s : Slot) (x : Cell) → Contains t x → in_curriculum p q x.course ≡ true → next_to (slot_of x) s ≡ true
      → is_alone p path q s ≡ true → ⊥
  neighbour_live q s x h m n a =
      let live_member : Slot → Bool = λ z. list_any (λ c. live_period p path c z) (members p q) in
      let w = member_from_any (λ c. c == x.course) (members p q) m in
      let here : live_member (slot_of x) ≡ true =
      any_member (λ c. live_period p path c (slot_of x)) (members p q) w.0 w.1
      (subst (λ c. live_period p path c (slot_of x) ≡ true) (sym (eqb-true w.0 x.course w.2)) (live_period_of p t ok path fits x h)) in
      let r = in_range p t ok x h in
      let there = any_slot p (λ z. next_to z s && live_member z) x.day x.period r.day r.period
      (and_from (next_to (slot_of x) s) (live_member (slot_of x)) n here) in
      both_ways (list_any (λ z. next_to z s && live_member z) (all_slots p))
      (not-true (list_any (λ z. next_to z s && live_member z) (all_slots p)) a) there

  alone_isolated : (q : ℕ) (s : Slot) → (pinned p path (Curriculum q) s && is_alone p path q s) ≡ true
      → list_any (λ e. in_curriculum p q e.course && is_isolated p t q e && is_at s e) t ≡ true
  alone_isolated q s h =
      let a = and_parts (pinned p path (Curriculum q) s) (is_alone p path q s) h in
      let w = pinned_entry p t ok path fits (Curriculum q) s a.0 in
      let e = w.0 in
      let beside : Cell → Bool = λ x. in_curriculum p q x.course && next_to (slot_of x) (slot_of e) in
      let alone : is_isolated p t q e ≡ true = not_from_false (list_any beside t) (false_from_ne_true (list_any beside t) (λ k.
      let v = member_from_any beside t k in
      let b = and_parts (in_curriculum p q v.0.course) (next_to (slot_of v.0) (slot_of e)) v.2 in
      neighbour_live q s v.0 v.1 b.0 (subst (λ z. next_to (slot_of v.0) z ≡ true) (is_at-slot s e w.3) b.1) a.1)) in
      any_member (λ e. in_curriculum p q e.course && is_isolated p t q e && is_at s e) t e w.1
      (and_from (in_curriculum p q e.course && is_isolated p t q e) (is_at s e)
      (and_from (in_curriculum p q e.course) (is_isolated p t q e) w.2 alone) w.3)

  pub compact_sound : (q : ℕ) → value_of p path (Compact q) ≤ compactness_cost p t q
  compact_sound q =
      let good : Cell → Bool = λ e. in_curriculum p q e.course && is_isolated p t q e in
      let claimed : Slot → Bool = λ s. pinned p path (Curriculum q) s && is_alone p path q s in
      let a = sum_by-le (λ s. one_if (claimed s)) (λ s. one_if (list_any (λ e. good e && is_at s e) t)) (all_slots p)
      (each (λ s. one_if (claimed s) ≤ one_if (list_any (λ e. good e && is_at s e) t))
      (λ s. cond-le (claimed s) (list_any (λ e. good e && is_at s e) t) (alone_isolated q s)) (all_slots p)) in
      let b = sum_by-le (λ s. one_if (list_any (λ e. good e && is_at s e) t)) (λ s. count_by (λ e. good e && is_at s e) t) (all_slots p)
      (each (λ s. one_if (list_any (λ e. good e && is_at s e) t) ≤ count_by (λ e. good e && is_at s e) t)
      (λ s. one_if_any (λ e. good e && is_at s e) t) (all_slots p)) in
      let c = spread_down (λ e. one_if (good e)) (λ s e. one_if (good e && is_at s e)) t (all_slots p)
      (each (λ e. sum_by (λ s. one_if (good e && is_at s e)) (all_slots p) ≤ one_if (good e))
      (λ e. once_at_most (good e) (λ s. is_at s e) 1 (all_slots p) (count_slots p e)) t) in
      omega arith

  -- ---- Capacity

  covered : (c u : ℕ) (e : Cell) → Contains t e → is_of c e ≡ true → u ≤ excess p e.course e.room + discount p path c u (slot_of e)
  covered c u e h m =
      let same = eqb-true e.course c m in
      subst (λ k. u ≤ excess p k e.room + discount p path c u (slot_of e)) (sym same)
      (price_covered u (excess p c) (λ r. is_live p path (cell c r (slot_of e))) (all_rooms p) e.room
      (number_below (length p.rooms) e.room (in_range p t ok e h).room)
      (subst (λ k. is_live p path (cell k e.room (slot_of e)) ≡ true) same (live_entry p t ok path fits e h)))

  pub capacity_sound : (c u : ℕ) → value_of p path (Capacity c u) ≤ part p t (RoomCapacity c)
  capacity_sound c u =
      let cost_of : Cell → ℕ = λ e. excess p e.course e.room in
      let off : Slot → ℕ = discount p path c u in
      let priced = sum_by-at_places (is_of c) u t in
      let met = ap (λ n. n * u) (lectures_met p t ok c) in
      let split = sum_by-le (λ e. cond (is_of c e) u 0) (λ e. cond (is_of c e) (cost_of e) 0 + cond (is_of c e) (off (slot_of e)) 0) t
      (each_member (λ e. cond (is_of c e) u 0 ≤ cond (is_of c e) (cost_of e) 0 + cond (is_of c e) (off (slot_of e)) 0) t (λ e h.
      cond-le_plus (is_of c e) u (cost_of e) (off (slot_of e)) (covered c u e h))) in
      let parts = sum_by-plus (λ e. cond (is_of c e) (cost_of e) 0) (λ e. cond (is_of c e) (off (slot_of e)) 0) t in
      let up = spread_up (λ e. cond (is_of c e) (off (slot_of e)) 0) (λ s e. cond (is_of c e && is_at s e) (off s) 0) t (all_slots p)
      (each_member (λ e. cond (is_of c e) (off (slot_of e)) 0 ≤ sum_by (λ s. cond (is_of c e && is_at s e) (off s) 0) (all_slots p)) t
      (λ e h.
      let r = in_range p t ok e h in
      let once = once_at_least (is_of c e) (λ s. is_at s e) (off (slot_of e)) (all_slots p)
      (any_slot p (λ s. is_at s e) e.day e.period r.day r.period (at_itself e)) in
      let moved = sum_by-same (λ s. cond (is_of c e && is_at s e) (off (slot_of e)) 0) (λ s. cond (is_of c e && is_at s e) (off s) 0)
      (all_slots p) (λ s.
      cond-same (is_of c e && is_at s e) (off (slot_of e)) (off s)
      (λ k. ap off (is_at-slot s e (and_parts (is_of c e) (is_at s e) k).1))) in
      omega arith)) in
      let down = sum_by-le (λ s. sum_by (λ e. cond (is_of c e && is_at s e) (off s) 0) t) off (all_slots p)
      (each_weaker (λ s. count_by (λ e. is_of c e && is_at s e) t ≤ 1)
      (λ s. sum_by (λ e. cond (is_of c e && is_at s e) (off s) 0) t ≤ off s) (λ s one.
      let e = sum_by-at_places (λ e. is_of c e && is_at s e) (off s) t in
      let k = mul-le-mul_right (off s) one in
      omega arith) (all_slots p) (once_a_period p t ok c)) in
      omega arith
