-- If the live cells are the entries of a course, the claim at the greatest least excess has the value of the seats that the course lacks.
use Rattle.std.proofs.Common.{◌≡◌, ℕ, ◌+◌, ◌*◌, ◌≤◌, ◌<◌, Bool, true, not, cond, ◌&&◌, ◌||◌, List, [], ◌∷◌, length, Option, Some, None, refl, ap, ◌∙◌, subst, arith, inl, inr, eqb-true, eq-eqb, min, zero-le, mul-le-mul_right}
use Rattle.std.specs.Prelude.{Contains, ◌==◌, sum_by, count_by, nat_lt, nat_le, is_some}
use Rattle.std.specs.List.{list_any}
use Rattle.std.proofs.lemmas.List.Sums.{sum_by-cons}
use Rattle.std.proofs.lemmas.Bool.{and_parts, and_from, or_left, or_right, cases_Bool, cases_lt, both_ways, not_from_false, le-leb, le-ltb, leb-true, lt-ltb}
use Rattle.tt_list_laws.proofs.Sums.{sum_by-le, sum_by-same, sum_by-plus, sum_by-times, sum_by-nothing, sum_by-tight, one_if, one_if_false, one_if-le, count_if_any, each, each_weaker, spread_up, once_at_least, sum_by-at_places}
use Rattle.tt_list_laws.proofs.Members.{each_member, any_member, none_passes}
use Rattle.tt_list_laws.proofs.Counting.{count_both, count_all, cond-le_cond}
use Rattle.tt_list_laws.proofs.Finding.{find_passes, find_none, greatest}
use Rattle.tt_list_laws.proofs.Given.{or_zero, at_least_value, count_in, count_by-filter_map, length-filter_map}
use Rattle.tt_instance.specs.Problem.{Problem}
use Rattle.tt_instance.specs.Cells.{slot_of, cell, is_at, is_of, all_slots, all_rooms}
use Rattle.tt_instance.specs.Courses.{lectures, conflict, excess}
use Rattle.tt_instance.specs.declared.cell.Slot.{Slot}
use Rattle.tt_instance.specs.declared.cell.Cell.{Cell}
use Rattle.tt_instance.proofs.Places.{any_slot}
use Rattle.tt_instance.proofs.Cells.{at_itself, is_at-slot}
use Rattle.tt_rules.specs.Hard.{entries_of}
use Rattle.tt_path.specs.Live.{is_live, live_period, least_excess}
use Rattle.tt_path.specs.declared.facts.Fact.{Fact}
use Rattle.tt_path.proofs.Least.{is_some-least, least_over}
use Rattle.tt_path.proofs.LiveCells.{live_cells, range_of, is_live_of}
use Rattle.tt_leaf_rules.specs.Claims.{RoomCapacity, part, value_of}
use Rattle.tt_leaf_rules.specs.Inner.Nested.{above_least}
use Rattle.tt_leaf.specs.declared.leaf.Bound.{Bound}
use Rattle.tt_leaf.specs.declared.leaf.Claim.TheVariants.{Capacity}
use Rattle.tt_leaf_rules.proofs.Values.{discounts_are}
use Rattle.tt_leaf_find.specs.Best.{is_kth, kth_smallest, least_excesses, price_of, at_price}
use Rattle.tt_leaf_find.specs.Pinned.{IsPinnedDown, IsOpen}
use Rattle.tt_leaf_find.proofs.LiveCells.{same_live, once_of}
use Rattle.tt_leaf_find.proofs.Fitting.{live_of, lectures_placed}

-- if there are at most k numbers, the greatest of them is the k-th smallest
pub greatest_is_kth : (k x : ℕ) (xs : List ℕ) → length (x ∷ xs) ≤ k → kth_smallest k (x ∷ xs) ≡ None → ⊥
greatest_is_kth k x xs h e =
    let ns = x ∷ xs in
    let w = greatest x xs in
    let u = w.0 in
    let n = min k (length ns) in
    let all : count_by (λ m. nat_le m u) ns ≡ length ns =
    count_all (λ m. nat_le m u) ns (each_weaker (λ m. m ≤ u) (λ m. nat_le m u ≡ true) (λ m l. le-leb m u l) ns w.2) in
    let itself : 1 ≤ count_by (λ m. not (nat_lt m u)) ns =
    count_if_any (λ m. not (nat_lt m u)) ns
    (any_member (λ m. not (nat_lt m u)) ns u w.1 (not_from_false (nat_lt u u) (le-ltb u u (omega arith)))) in
    let fewer : count_by (λ m. nat_lt m u) ns < n = omega (arith, count_both (λ m. nat_lt m u) ns) in
    let enough : n ≤ count_by (λ m. nat_le m u) ns = omega arith in
    both_ways (list_any (is_kth ns n) ns) (find_none (is_kth ns n) ns e)
    (any_member (is_kth ns n) ns u w.1
    (and_from (nat_lt (count_by (λ m. nat_lt m u) ns) n) (nat_le n (count_by (λ m. nat_le m u) ns))
    (lt-ltb (count_by (λ m. nat_lt m u) ns) n fewer) (le-leb n (count_by (λ m. nat_le m u) ns) enough)))

module _ (p : Problem) (path : List Fact) (pins : IsPinnedDown p path) where
  abbrev t : List Cell
  t = live_cells p path

  -- the excess of an entry of the course is at most the least excess of its period
  entry_costs : (c : ℕ) (s : Slot) (e : Cell) → Contains t e → (is_of c e && is_at s e) ≡ true → excess p e.course e.room ≤ or_zero
      (least_excess p path c s)
  entry_costs c s e m h =
      let a = and_parts (is_of c e) (is_at s e) h in
      let course = eqb-true e.course c a.0 in
      let slot_is = is_at-slot s e a.1 in
      let at_slot : (z : Slot) → slot_of e ≡ z → excess p e.course e.room ≤ or_zero (least_excess p path e.course z) = λ z k.
      subst (λ y. excess p e.course e.room ≤ or_zero (least_excess p path e.course y)) k here in
      subst (λ i. excess p e.course e.room ≤ or_zero (least_excess p path i s)) course (at_slot s slot_is)
    where
      live_room : ℕ → Bool
      live_room r = is_live p path (cell e.course r (slot_of e))

      same_room : (r : ℕ) → is_live p path (cell e.course r (slot_of e)) ≡ true → excess p e.course e.room ≤ excess p e.course r
      same_room r l =
          let x = cell e.course r (slot_of e) in
          let k = same_live p path pins x e (range_of p path e m) l (is_live_of p path e m) (at_itself e)
          (or_left ((e.room == r) || (e.course == e.course)) (conflict p e.course e.course)
          (or_right (e.room == r) (e.course == e.course) (eq-eqb e.course e.course refl))) in
          let c2 = and_parts (e.course == e.course) (r == e.room)
          (and_parts ((e.course == e.course) && (r == e.room)) (is_at (slot_of e) x) k).0 in
          let same = ap (excess p e.course) (eqb-true r e.room c2.1) in
          omega arith

      here : excess p e.course e.room ≤ or_zero (least_excess p path e.course (slot_of e))
      here =
          at_least_value (excess p e.course e.room) (least_excess p path e.course (slot_of e))
          (is_some-least (excess p e.course) (λ r. is_live p path (cell e.course r (slot_of e))) (all_rooms p) ∙ live_of p path pins e m)
          (least_over (excess p e.course e.room) (excess p e.course) (λ r. is_live p path (cell e.course r (slot_of e))) (all_rooms p)
          (each (λ r. is_live p path (cell e.course r (slot_of e)) ≡ true → excess p e.course e.room ≤ excess p e.course r) same_room
          (all_rooms p)))

  -- the seats that a course lacks are at most the sum of the least excesses of its periods
  part-le : (c : ℕ) → part p t (RoomCapacity c) ≤ sum_by (λ s. or_zero (least_excess p path c s)) (all_slots p)
  part-le c =
      let cost_of : Cell → ℕ = λ e. excess p e.course e.room in
      let up = spread_up (λ e. cond (is_of c e) (cost_of e) 0) (λ s e. cond (is_of c e && is_at s e) (cost_of e) 0) t (all_slots p)
      (each_member (λ e. cond (is_of c e) (cost_of e) 0 ≤ sum_by (λ s. cond (is_of c e && is_at s e) (cost_of e) 0) (all_slots p)) t (λ e m.
      let r = range_of p path e m in
      once_at_least (is_of c e) (λ s. is_at s e) (cost_of e) (all_slots p)
      (any_slot p (λ s. is_at s e) e.day e.period r.day r.period (at_itself e)))) in
      let down = sum_by-le (λ s. sum_by (λ e. cond (is_of c e && is_at s e) (cost_of e) 0) t) (λ s. or_zero (least_excess p path c s))
      (all_slots p)
      (each (λ s. sum_by (λ e. cond (is_of c e && is_at s e) (cost_of e) 0) t ≤ or_zero (least_excess p path c s)) (λ s.
      let off = or_zero (least_excess p path c s) in
      let most = sum_by-le (λ e. cond (is_of c e && is_at s e) (cost_of e) 0) (λ e. cond (is_of c e && is_at s e) off 0) t
      (each_member (λ e. cond (is_of c e && is_at s e) (cost_of e) 0 ≤ cond (is_of c e && is_at s e) off 0) t
      (λ e m. cond-le_cond (is_of c e && is_at s e) (cost_of e) off (entry_costs c s e m))) in
      let places = sum_by-at_places (λ e. is_of c e && is_at s e) off t in
      let k = mul-le-mul_right off (once_of p path pins c s) in
      omega arith) (all_slots p)) in
      omega arith

  module _ (b : Bound) (none : IsOpen p path b) (c : ℕ) (h : c < length p.courses) where
    -- the number of periods that have a least excess is the number of the course's lectures
    counted : count_by (λ s. is_some (least_excess p path c s)) (all_slots p) ≡ lectures p c
    counted =
        sum_by-same (λ s. one_if (is_some (least_excess p path c s))) (λ s. one_if (live_period p path c s)) (all_slots p)
        (λ s. ap one_if (is_some-least (excess p c) (λ r. is_live p path (cell c r s)) (all_rooms p)))
        ∙ (lectures_placed p path pins b none c h).1

    as_many : length (least_excesses p path c) ≡ lectures p c
    as_many = length-filter_map (least_excess p path c) (all_slots p) ∙ counted

    -- a price that covers each least excess
    at_price_u : (u : ℕ) → price_of p path c ≡ Some u → sum_by (λ s. or_zero (least_excess p path c s)) (all_slots p) ≤ value_of p path
        (Capacity c u)
    at_price_u u e =
        let ns = least_excesses p path c in
        let n = min (lectures p c) (length ns) in
        let a = and_parts (nat_lt (count_by (λ m. nat_lt m u) ns) n) (nat_le n (count_by (λ m. nat_le m u) ns))
        (find_passes (is_kth ns n) ns u e) in
        let enough = leb-true n (count_by (λ m. nat_le m u) ns) a.1 in
        let spread = count_by-filter_map (least_excess p path c) (λ m. nat_le m u) (all_slots p) in
        let some : Slot → ℕ = λ s. one_if (is_some (least_excess p path c s)) in
        let low : Slot → ℕ = λ s. count_in (λ m. nat_le m u) (least_excess p path c s) in
        let tight = sum_by-tight low some (all_slots p) (each (λ s. low s ≤ some s) (λ s. no_more (least_excess p path c s))
        (all_slots p)) (omega (arith, as_many, counted)) in
        let covered = sum_by-le (λ s. or_zero (least_excess p path c s) + above_least u (least_excess p path c s)) (λ s. some s * u)
        (all_slots p)
        (each_weaker (λ s. some s ≤ low s)
        (λ s. or_zero (least_excess p path c s) + above_least u (least_excess p path c s) ≤ some s * u)
        (λ s k. by_case (least_excess p path c s) k) (all_slots p) tight) in
        let parts = sum_by-plus (λ s. or_zero (least_excess p path c s)) (λ s. above_least u (least_excess p path c s)) (all_slots p) in
        let off = discounts_are p path c u in
        let times = sum_by-times some u (all_slots p) in
        let full : sum_by some (all_slots p) * u ≡ lectures p c * u = ap (λ k. k * u) counted in
        omega arith
      where
        no_more : (o : Option ℕ) → count_in (λ m. nat_le m u) o ≤ one_if (is_some o)
        no_more None = zero-le
        no_more (Some m) = one_if-le (nat_le m u)

        by_case : (o : Option ℕ) → one_if (is_some o) ≤ count_in (λ m. nat_le m u) o → or_zero o + above_least u o ≤ one_if (is_some o) * u
        by_case None k = zero-le
        by_case (Some m) k = elim (cases_Bool (nat_le m u)) [
          | inl d ↦ let l = leb-true m u d in omega arith
          | inr d ↦ let z = one_if_false (nat_le m u) d in absurd (omega arith)
        ]

    no_lectures : lectures p c ≡ 0 → part p t (RoomCapacity c) ≤ 0
    no_lectures e =
        let entries : entries_of t c ≡ 0 = (lectures_placed p path pins b none c h).0 ∙ e in
        let k = sum_by-le (λ x. cond (is_of c x) (excess p x.course x.room) 0) (λ x. 0) t
        (each_member (λ x. cond (is_of c x) (excess p x.course x.room) 0 ≤ 0) t
        (λ x m. rw (none_passes (is_of c) t x entries m) zero-le)) in
        omega (arith, sum_by-nothing t)

    some_price : 0 < lectures p c → price_of p path c ≡ None → ⊥
    some_price l e = by_list (least_excesses p path c) as_many e
      where
        by_list : (ns : List ℕ) → length ns ≡ lectures p c → kth_smallest (lectures p c) ns ≡ None → ⊥
        by_list [] k d = omega arith
        by_list (x ∷ xs) k d = greatest_is_kth (lectures p c) x xs (omega arith) d

    pub capacity_worth : part p t (RoomCapacity c) ≤ sum_by (value_of p path) (at_price c (price_of p path c))
    capacity_worth = by_price (price_of p path c) refl
      where
        by_price : (o : Option ℕ) → price_of p path c ≡ o → part p t (RoomCapacity c) ≤ sum_by (value_of p path) (at_price c o)
        by_price None e = elim (cases_lt 0 (lectures p c)) [
          | inl l ↦ absurd (some_price l e)
          | inr l ↦ no_lectures (omega arith)
        ]
        by_price (Some u) e = omega (arith, part-le c, at_price_u u e, sum_by-cons (value_of p path) (Capacity c u) [])
