-- The values of the claims that give prices of rooms, or count pinned days.
use Rattle.std.proofs.Common.{◌≡◌, ℕ, ◌+◌, ◌*◌, ◌≤◌, Bool, true, false, not, cond, ◌&&◌, ◌||◌, List, [], ◌∷◌, map, length, sym, ap, ◌∙◌, subst, arith, inl, inr, eqb-true, zero-le, mul-le-mul_right, leb-true, mul_comm}
use Rattle.std.specs.Prelude.{Contains, ◌==◌, nat_le, sum_by, count_by}
use Rattle.std.specs.List.{list_any, list_all}
use Rattle.std.proofs.lemmas.List.Sums.{sum_by-cons}
use Rattle.std.proofs.lemmas.Bool.{and_parts, and_from, or_cases, not-true, not_from_false, both_ways, cases_Bool, or_left, or_right, cond-true, cond-false}
use Rattle.tt_list_laws.specs.Words.{each_two, are_distinct}
use Rattle.tt_instance.specs.Problem.{Problem}
use Rattle.tt_instance.specs.Cells.{slot, slot_of, cell, all_slots, all_rooms, all_days, is_of, is_at, is_in, is_on}
use Rattle.tt_instance.specs.Courses.{lectures, excess}
use Rattle.tt_instance.specs.declared.cell.Slot.{Slot}
use Rattle.tt_rules.specs.Soft.{days_of, days_cost}
use Rattle.tt_rules.specs.Score.{IsFeasible}
use Rattle.tt_path.specs.Facts.{Fits}
use Rattle.tt_path.specs.Live.{is_live, pinned, pinned_periods}
use Rattle.tt_leaf_rules.specs.Claims.{RoomCapacity}
use Rattle.tt_leaf_rules.specs.Claims.{part, price_in, are_covered, open_in, pinned_day, targets_of, value_of}
use Rattle.tt_leaf_rules.specs.Tests.{same_target}
use Rattle.tt_instance.specs.declared.cell.Cell.{Cell}
use Rattle.tt_path.specs.declared.facts.Who.TheVariants.{Course}
use Rattle.tt_path.specs.declared.facts.Fact.{Fact}
use Rattle.tt_leaf.specs.declared.leaf.Claim.TheVariants.{Prices, Stacked}
use Rattle.tt_list_laws.proofs.Sums.{one_if, one_if_any, cond-le, sum_by-le, sum_by-same, sum_by-plus, sum_by-of_map, sum_by-at_places, sum_by-times, each, each_from_list_all, list_any-of_map, spread_up, spread_down, once_at_most}
use Rattle.tt_list_laws.proofs.Numbers.{any_below, count_below}
use Rattle.tt_instance.proofs.Places.{count_slots, each_slot_at}
use Rattle.tt_list_laws.proofs.Members.{at_member, each_member, any_member, member_from_any, count_by-split, each_two-of_map, each_below_at}
use Rattle.tt_list_laws.proofs.Counting.{or-le, cond-le_plus}
use Rattle.tt_rules.proofs.Feasible.{in_range}
use Rattle.tt_rules.proofs.Feasible.{lectures_met, one_in_each}
use Rattle.tt_leaf_rules.proofs.Live.{live_entry, pinned_entry}
use Rattle.tt_instance.proofs.Cells.{is_at-slot}
use Rattle.tt_leaf_rules.proofs.Contradictions.{in_room_at_most}
use Rattle.tt_leaf_rules.proofs.Values.{days_live}

times-le : (a b k : ℕ) → a ≤ b → a * k ≤ k * b
times-le a b k h = let e = mul-le-mul_right k h in omega (arith, mul_comm k b)

module _ (p : Problem) (t : List Cell) (ok : IsFeasible p t) (path : List Fact) (fits : Fits p t path) where
  -- ---- Stacked

  -- the entries of a course at its pinned periods
  pinned_entries : (c : ℕ) → pinned_periods p path (Course c) ≤ count_by (λ e. is_of c e && pinned p path (Course c) (slot_of e)) t
  pinned_entries c =
      let here : Cell → Bool = λ e. is_of c e && pinned p path (Course c) (slot_of e) in
      let a = sum_by-le (λ s. one_if (pinned p path (Course c) s)) (λ s. count_by (λ e. here e && is_at s e) t) (all_slots p)
      (each (λ s. one_if (pinned p path (Course c) s) ≤ count_by (λ e. here e && is_at s e) t) (λ s.
      let any = one_if_any (λ e. here e && is_at s e) t in
      let k = cond-le (pinned p path (Course c) s) (list_any (λ e. here e && is_at s e) t) (λ h.
      let w = pinned_entry p t ok path fits (Course c) s h in
      any_member (λ e. here e && is_at s e) t w.0 w.1
      (and_from (here w.0) (is_at s w.0) (and_from (is_of c w.0) (pinned p path (Course c) (slot_of w.0)) w.2
      (subst (λ z. pinned p path (Course c) z ≡ true) (sym (is_at-slot s w.0 w.3)) h)) w.3)) in
      omega arith) (all_slots p)) in
      let b = spread_down (λ e. one_if (here e)) (λ s e. one_if (here e && is_at s e)) t (all_slots p)
      (each (λ e. sum_by (λ s. one_if (here e && is_at s e)) (all_slots p) ≤ one_if (here e))
      (λ e. once_at_most (here e) (λ s. is_at s e) 1 (all_slots p) (count_slots p e)) t) in
      omega arith

  day_cases : (c d : ℕ) → list_any (λ e. is_of c e && is_on d e) t ≡ true
      → (pinned_day p path c d || list_any (λ e. is_of c e && not (pinned p path (Course c) (slot_of e)) && is_on d e) t) ≡ true
  day_cases c d h =
      let w = member_from_any (λ e. is_of c e && is_on d e) t h in
      let e = w.0 in
      let a = and_parts (is_of c e) (is_on d e) w.2 in
      let others = list_any (λ e. is_of c e && not (pinned p path (Course c) (slot_of e)) && is_on d e) t in
      let here = pinned p path (Course c) (slot_of e) in
      elim (cases_Bool here) [
        | inl k ↦ or_left (pinned_day p path c d) others
            (subst (λ i. pinned_day p path c i ≡ true) (eqb-true e.day d a.1)
            (any_below (λ s. pinned p path (Course c) (slot e.day s)) p.periods e.period (in_range p t ok e w.1).period k))
        | inr k ↦ or_right (pinned_day p path c d) others
            (any_member (λ e. is_of c e && not (pinned p path (Course c) (slot_of e)) && is_on d e) t e w.1
            (and_from (is_of c e && not here) (is_on d e) (and_from (is_of c e) (not here) a.0 (not_from_false here k)) a.1))
      ]

  -- a day with an entry is pinned, or has an entry in a period that isn't pinned
  days_split : (c : ℕ) → days_of p t c ≤ count_by (pinned_day p path c) (all_days p) + count_by
      (λ e. is_of c e && not (pinned p path (Course c) (slot_of e))) t
  days_split c =
      let free : Cell → Bool = λ e. is_of c e && not (pinned p path (Course c) (slot_of e)) in
      let on_day : ℕ → Bool = λ d. list_any (λ e. is_of c e && is_on d e) t in
      let a = sum_by-le (λ d. one_if (on_day d)) (λ d. one_if (pinned_day p path c d) + count_by (λ e. free e && is_on d e) t) (all_days p)
      (each (λ d. one_if (on_day d) ≤ one_if (pinned_day p path c d) + count_by (λ e. free e && is_on d e) t) (λ d.
      let any = one_if_any (λ e. free e && is_on d e) t in
      let k = cond-le (on_day d) (pinned_day p path c d || list_any (λ e. free e && is_on d e) t) (day_cases c d) in
      let l = or-le (pinned_day p path c d) (list_any (λ e. free e && is_on d e) t) in
      omega arith) (all_days p)) in
      let plus = sum_by-plus (λ d. one_if (pinned_day p path c d)) (λ d. count_by (λ e. free e && is_on d e) t) (all_days p) in
      let b = spread_down (λ e. one_if (free e)) (λ d e. one_if (free e && is_on d e)) t (all_days p)
      (each (λ e. sum_by (λ d. one_if (free e && is_on d e)) (all_days p) ≤ one_if (free e))
      (λ e. once_at_most (free e) (λ d. is_on d e) 1 (all_days p) (count_below e.day p.days)) t) in
      omega arith

  pub stacked_sound : (c : ℕ) → value_of p path (Stacked c) ≤ days_cost p t c
  stacked_sound c =
      let a = days_live p t ok path fits c in
      let b = days_split c in
      let d = pinned_entries c in
      let l = lectures_met p t ok c in
      let s = count_by-split (is_of c) (λ e. pinned p path (Course c) (slot_of e)) t in
      omega arith

  -- ---- Prices

  -- the price of a room is at most the sum of the list's prices for it
  price_in-le : (rooms : List (ℕ × ℕ)) (r : ℕ) → price_in rooms r ≤ sum_by (λ j. cond (r == j.0) j.1 0) rooms
  price_in-le [] r = zero-le
  price_in-le (x ∷ xs) r =
      let rest = price_in-le xs r in
      let c = sum_by-cons (λ (j : ℕ × ℕ). cond (r == j.0) j.1 0) x xs in
      elim (cases_Bool (r == x.0)) [
        | inl e ↦ let a = cond-true (r == x.0) x.1 (price_in xs r) e in let b = cond-true (r == x.0) x.1 0 e in omega arith
        | inr e ↦ let a = cond-false (r == x.0) x.1 (price_in xs r) e in omega arith
      ]

  fee_spread : (b : Bool) (rooms : List (ℕ × ℕ)) (r : ℕ) → cond b (price_in rooms r) 0 ≤ sum_by (λ j. cond (b && (r == j.0)) j.1 0) rooms
  fee_spread true rooms r = price_in-le rooms r
  fee_spread false rooms r = zero-le

  -- for an entry of a listed course, the excess and the price of its room cover the course's price
  covers : (courses rooms : List (ℕ × ℕ)) → are_covered p path courses rooms ≡ true → (k : ℕ × ℕ) → Contains courses k → (e : Cell)
      → Contains t e → is_of k.0 e ≡ true → k.1 ≤ excess p e.course e.room + price_in rooms e.room
  covers courses rooms a k m e h o =
      let i = in_range p t ok e h in
      let test : ℕ → Slot → Bool = λ r s. not (is_live p path (cell k.0 r s)) || nat_le k.1 (excess p k.0 r + price_in rooms r) in
      let of_course =
      at_member (λ z. list_all
      (λ r. list_all (λ s. not (is_live p path (cell z.0 r s)) || nat_le z.1 (excess p z.0 r + price_in rooms r)) (all_slots p))
      (all_rooms p) ≡ true) courses k
      (each_from_list_all
      (λ z. list_all
      (λ r. list_all
      (λ s. not (is_live p path (cell z.0 r s)) || nat_le z.1 (excess p z.0 r + price_in rooms r))
      (all_slots p)) (all_rooms p)) courses a) m in
      let in_room = each_below_at (λ r. list_all (test r) (all_slots p) ≡ true) (length p.rooms) e.room
      (each_from_list_all (λ r. list_all (test r) (all_slots p)) (all_rooms p) of_course) i.room in
      let here = each_slot_at p (λ s. test e.room s ≡ true) e.day e.period (each_from_list_all (test e.room) (all_slots p) in_room)
      i.day i.period in
      let same = eqb-true e.course k.0 o in
      let live = subst (λ c. is_live p path (cell c e.room (slot_of e)) ≡ true) same (live_entry p t ok path fits e h) in
      elim (or_cases (not (is_live p path (cell k.0 e.room (slot_of e)))) (nat_le k.1 (excess p k.0 e.room + price_in rooms e.room)) here) [
        | inl n ↦ absurd
            (both_ways (is_live p path (cell k.0 e.room (slot_of e))) (not-true (is_live p path (cell k.0 e.room (slot_of e))) n) live)
        | inr l ↦ subst (λ c. k.1 ≤ excess p c e.room + price_in rooms e.room) (sym same)
            (leb-true k.1 (excess p k.0 e.room + price_in rooms e.room) l)
      ]

  pub priced_sound : (courses rooms : List (ℕ × ℕ)) → each_two (λ a b. not (same_target a b)) (targets_of (Prices courses rooms)) ≡ true
      → are_covered p path courses rooms ≡ true → value_of p path (Prices courses rooms) ≤ sum_by (part p t)
      (targets_of (Prices courses rooms))
  priced_sound courses rooms apart fair =
      let cost_of : Cell → ℕ = λ e. excess p e.course e.room in
      let fee : Cell → ℕ = λ e. price_in rooms e.room in
      let ids = map (λ (k : ℕ × ℕ). k.0) courses in
      let distinct : are_distinct ids ≡ true = each_two-of_map (λ a b. not (a == b)) (λ (k : ℕ × ℕ). k.0) courses
      ∙ sym (each_two-of_map (λ a b. not (same_target a b)) (λ (k : ℕ × ℕ). RoomCapacity k.0) courses) ∙ apart in
      let parts = sum_by-of_map (part p t) (λ (k : ℕ × ℕ). RoomCapacity k.0) courses in
      -- each course's lectures at its price are covered by the excess and the fees of its entries
      let covered = sum_by-le (λ k. lectures p k.0 * k.1)
      (λ k. part p t (RoomCapacity k.0) + sum_by (λ e. cond (is_of k.0 e) (fee e) 0) t) courses
      (each_member (λ k. lectures p k.0 * k.1 ≤ part p t (RoomCapacity k.0) + sum_by (λ e. cond (is_of k.0 e) (fee e) 0) t) courses (λ k m.
      let priced = sum_by-at_places (is_of k.0) k.1 t in
      let met = ap (λ n. n * k.1) (lectures_met p t ok k.0) in
      let split = sum_by-le (λ e. cond (is_of k.0 e) k.1 0) (λ e. cond (is_of k.0 e) (cost_of e) 0 + cond (is_of k.0 e) (fee e) 0) t
      (each_member (λ e. cond (is_of k.0 e) k.1 0 ≤ cond (is_of k.0 e) (cost_of e) 0 + cond (is_of k.0 e) (fee e) 0) t (λ e h.
      cond-le_plus (is_of k.0 e) k.1 (cost_of e) (fee e) (covers courses rooms fair k m e h))) in
      let plus = sum_by-plus (λ e. cond (is_of k.0 e) (cost_of e) 0) (λ e. cond (is_of k.0 e) (fee e) 0) t in
      omega arith)) in
      let plus = sum_by-plus (λ k. part p t (RoomCapacity k.0)) (λ (k : ℕ × ℕ). sum_by (λ e. cond (is_of k.0 e) (fee e) 0) t) courses in
      -- the fees of a course are spread over the listed rooms
      let fees = spread_up (λ (k : ℕ × ℕ). sum_by (λ e. cond (is_of k.0 e) (fee e) 0) t)
      (λ (j : ℕ × ℕ) (k : ℕ × ℕ). count_by (λ e. is_of k.0 e && is_in j.0 e) t * j.1) courses rooms
      (each (λ k. sum_by (λ e. cond (is_of k.0 e) (fee e) 0) t ≤ sum_by (λ j. count_by (λ e. is_of k.0 e && is_in j.0 e) t * j.1) rooms)
      (λ k.
      let up = spread_up (λ e. cond (is_of k.0 e) (fee e) 0) (λ (j : ℕ × ℕ) e. cond (is_of k.0 e && is_in j.0 e) j.1 0) t rooms
      (each (λ e. cond (is_of k.0 e) (fee e) 0 ≤ sum_by (λ (j : ℕ × ℕ). cond (is_of k.0 e && is_in j.0 e) j.1 0) rooms)
      (λ e. fee_spread (is_of k.0 e) rooms e.room) t) in
      let counted = sum_by-same (λ (j : ℕ × ℕ). sum_by (λ e. cond (is_of k.0 e && is_in j.0 e) j.1 0) t)
      (λ (j : ℕ × ℕ). count_by (λ e. is_of k.0 e && is_in j.0 e) t * j.1) rooms
      (λ j. sum_by-at_places (λ e. is_of k.0 e && is_in j.0 e) j.1 t) in
      omega arith) courses) in
      -- a listed room is paid at most once a period
      let paid = sum_by-le (λ j. sum_by (λ k. count_by (λ e. is_of k.0 e && is_in j.0 e) t * j.1) courses)
      (λ j. j.1 * open_in p path courses j.0) rooms
      (each (λ j. sum_by (λ k. count_by (λ e. is_of k.0 e && is_in j.0 e) t * j.1) courses ≤ j.1 * open_in p path courses j.0) (λ j.
      let there : ℕ → ℕ = λ c. count_by (λ e. is_of c e && is_in j.0 e) t in
      let times = sum_by-times (λ (k : ℕ × ℕ). there k.0) j.1 courses in
      let mapped = sum_by-of_map there (λ (k : ℕ × ℕ). k.0) courses in
      let most = in_room_at_most p t ok path fits ids distinct j.0 (one_in_each p t ok j.0) in
      let same = sum_by-same (λ s. one_if (list_any (λ c. is_live p path (cell c j.0 s)) ids))
      (λ s. one_if (list_any (λ (k : ℕ × ℕ). is_live p path (cell k.0 j.0 s)) courses)) (all_slots p)
      (λ s. ap one_if (list_any-of_map (λ c. is_live p path (cell c j.0 s)) (λ (k : ℕ × ℕ). k.0) courses)) in
      let bound : sum_by (λ (k : ℕ × ℕ). there k.0) courses ≤ open_in p path courses j.0 = omega arith in
      let k = times-le (sum_by (λ (k : ℕ × ℕ). there k.0) courses) (open_in p path courses j.0) j.1 bound in
      omega arith) rooms) in
      omega arith
