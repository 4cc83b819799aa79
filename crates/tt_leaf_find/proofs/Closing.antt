-- If the path has each live cell's own pattern as a yes-fact, one of the leaves that are tried is right.
use Rattle.std.proofs.Common.{◌≡◌, ℕ, ◌≤◌, ◌<◌, Bool, true, cond, ◌&&◌, List, length, refl, subst, arith, eqb-true, eq-eqb}
use Rattle.std.specs.Prelude.{◌==◌, sum_by, count_by, All}
use Rattle.std.specs.List.{list_any}
use Rattle.std.proofs.lemmas.List.Elements.{All-contains}
use Rattle.std.proofs.lemmas.Bool.{and_parts, and_from, not-true, not_from_false, both_ways, false_from_ne_true}
use Rattle.tt_list_laws.specs.Words.{range_below}
use Rattle.tt_list_laws.proofs.Sums.{sum_by-le, one_if, cond-le, each, any_if_count, spread_up, once_at_least}
use Rattle.tt_list_laws.proofs.Numbers.{any_below}
use Rattle.tt_list_laws.proofs.Members.{at_member, each_member, member_from_any, any_member}
use Rattle.tt_list_laws.proofs.Counting.{counted_once}
use Rattle.tt_list_laws.proofs.Range.{below_member, each_below}
use Rattle.tt_instance.specs.Problem.{Problem}
use Rattle.tt_instance.specs.Limits.{IsInstance}
use Rattle.tt_instance.specs.Cells.{slot, slot_of, cell, next_to, is_at, is_of, is_in, is_on, all_slots, all_rooms, all_days, all_courses, all_curricula}
use Rattle.tt_instance.specs.Courses.{members, in_curriculum, excess}
use Rattle.tt_instance.specs.declared.cell.Slot.{Slot}
use Rattle.tt_instance.specs.declared.cell.Cell.{Cell}
use Rattle.tt_instance.proofs.Places.{any_slot}
use Rattle.tt_instance.proofs.Cells.{at_itself, is_at-slot, IsSlot, each_slot}
use Rattle.tt_instance.proofs.Limits.{members_below}
use Rattle.tt_rules.specs.Soft.{days_of, days_cost, is_isolated, compactness_cost, stability_cost, capacity_count}
use Rattle.tt_rules.specs.Score.{IsFeasible, cost}
use Rattle.tt_path.specs.Facts.{Fits}
use Rattle.tt_path.specs.Live.{live_period, live_day, pinned, pinned_room}
use Rattle.tt_path.specs.declared.facts.Who.TheVariants.{Curriculum}
use Rattle.tt_path.specs.declared.facts.Fact.{Fact}
use Rattle.tt_path.proofs.LiveCells.{live_cells, range_of, is_live_of, any_live}
use Rattle.tt_leaf_rules.specs.Bounds.{Respects}
use Rattle.tt_leaf_rules.specs.Claims.{RoomCapacity, part, is_alone, value_of, total_of}
use Rattle.tt_leaf.specs.declared.leaf.Bound.{Bound}
use Rattle.tt_leaf.specs.declared.leaf.Bound.TheVariants.{AtLeast, Nothing}
use Rattle.tt_leaf.specs.declared.leaf.Claim.TheVariants.{Days, Compact, Stable}
use Rattle.tt_leaf_find.specs.Best.{price_of, at_price, best_claims}
use Rattle.tt_leaf_find.specs.Pinned.{IsPinnedDown, IsOpen}
use Rattle.tt_leaf_find.proofs.LiveCells.{once_of_curriculum}
use Rattle.tt_leaf_find.proofs.Fitting.{pinned_at, pinned_room_at, live_at, is_feasible, fits}
use Rattle.tt_leaf_find.proofs.Capacity.{capacity_worth}
use Rattle.tt_leaf_find.proofs.Claims.{all_different, all_fair, total-claims}

module _ (p : Problem) (path : List Fact) (pins : IsPinnedDown p path) where
  abbrev t : List Cell
  t = live_cells p path

  -- ---- Days

  taught_on : (c : ℕ) → c < length p.courses → (d : ℕ) → d < p.days → live_day p path c d ≡ true
      → list_any (λ e. is_of c e && is_on d e) t ≡ true
  taught_on c h d k e =
      let w = member_from_any (λ s. live_period p path c (slot d s)) (range_below p.periods) e in
      let v = live_at p path pins c h (slot d w.0) (record { day = k; period = below_member p.periods w.0 w.1 }) w.2 in
      any_live p path (λ x. is_of c x && is_on d x) (cell c v.0 (slot d w.0)) v.1 v.2
      (and_from (c == c) (d == d) (eq-eqb c c refl) (eq-eqb d d refl))

  days_worth : (c : ℕ) → c < length p.courses → days_cost p t c ≤ value_of p path (Days c)
  days_worth c h =
      let k = sum_by-le (λ d. one_if (live_day p path c d)) (λ d. one_if (list_any (λ e. is_of c e && is_on d e) t)) (all_days p)
      (each_below (λ d. one_if (live_day p path c d) ≤ one_if (list_any (λ e. is_of c e && is_on d e) t)) p.days (λ d l.
      cond-le (live_day p path c d) (list_any (λ e. is_of c e && is_on d e) t) (taught_on c h d l))) in
      let live : count_by (live_day p path c) (all_days p) ≤ days_of p t c = k in
      omega arith

  -- ---- Stable

  stable_worth : (c : ℕ) → stability_cost p t c ≤ value_of p path (Stable c)
  stable_worth c =
      let k = sum_by-le (λ r. one_if (list_any (λ e. is_of c e && is_in r e) t)) (λ r. one_if (pinned_room p path c r)) (all_rooms p)
      (each (λ r. one_if (list_any (λ e. is_of c e && is_in r e) t) ≤ one_if (pinned_room p path c r)) (λ r.
      cond-le (list_any (λ e. is_of c e && is_in r e) t) (pinned_room p path c r) (λ e.
      let w = member_from_any (λ x. is_of c x && is_in r x) t e in
      let x = w.0 in
      let a = and_parts (is_of c x) (is_in r x) w.2 in
      subst (λ i. pinned_room p path c i ≡ true) (eqb-true x.room r a.1)
      (subst (λ i. pinned_room p path i x.room ≡ true) (eqb-true x.course c a.0)
      (pinned_room_at p path pins x (range_of p path x w.1) (is_live_of p path x w.1)))))
      (all_rooms p)) in
      omega arith

  -- ---- Compact

  module _ (q : ℕ) (known : All (λ c. c < length p.courses) (members p q)) where
    abbrev good : Cell → Bool
    good e = in_curriculum p q e.course && is_isolated p t q e

    -- no neighbour period of an isolated entry has a live cell of a member
    alone_at : (e : Cell) → is_isolated p t q e ≡ true → is_alone p path q (slot_of e) ≡ true
    alone_at e i =
        let near : Slot → Bool = λ n. next_to n (slot_of e) && list_any (λ c. live_period p path c n) (members p q) in
        not_from_false (list_any near (all_slots p)) (false_from_ne_true (list_any near (all_slots p)) (λ k.
        let w = member_from_any near (all_slots p) k in
        let n = w.0 in
        let a = and_parts (next_to n (slot_of e)) (list_any (λ c. live_period p path c n) (members p q)) w.2 in
        let v = member_from_any (λ c. live_period p path c n) (members p q) a.1 in
        let c = v.0 in
        let inside = at_member (IsSlot p) (all_slots p) n (each_slot p) w.1 in
        let l = live_at p path pins c (All-contains (λ m. m < length p.courses) (members p q) c known v.1) n inside v.2 in
        let beside : Cell → Bool = λ x. in_curriculum p q x.course && next_to (slot_of x) (slot_of e) in
        both_ways (list_any beside t) (not-true (list_any beside t) i)
        (any_live p path beside (cell c l.0 n) l.1 l.2
        (and_from (in_curriculum p q c) (next_to n (slot_of e)) (any_member (λ m. m == c) (members p q) c v.1 (eq-eqb c c refl)) a.0))))

    alone_where : (s : Slot) → list_any (λ e. good e && is_at s e) t ≡ true → (pinned p path (Curriculum q) s && is_alone p path q s) ≡ true
    alone_where s k =
        let w = member_from_any (λ e. good e && is_at s e) t k in
        let e = w.0 in
        let a = and_parts (good e) (is_at s e) w.2 in
        let g = and_parts (in_curriculum p q e.course) (is_isolated p t q e) a.0 in
        subst (λ z. (pinned p path (Curriculum q) z && is_alone p path q z) ≡ true) (is_at-slot s e a.1)
        (and_from (pinned p path (Curriculum q) (slot_of e)) (is_alone p path q (slot_of e))
        (pinned_at p path pins (Curriculum q) e (range_of p path e w.1) (is_live_of p path e w.1) g.0) (alone_at e g.1))

    few_good : (s : Slot) → count_by (λ e. good e && is_at s e) t ≤ 1
    few_good s =
        let k = sum_by-le (λ e. one_if (good e && is_at s e)) (λ e. one_if (in_curriculum p q e.course && is_at s e)) t
        (each (λ e. one_if (good e && is_at s e) ≤ one_if (in_curriculum p q e.course && is_at s e)) (λ e.
        cond-le (good e && is_at s e) (in_curriculum p q e.course && is_at s e) (λ h.
        let a = and_parts (good e) (is_at s e) h in
        and_from (in_curriculum p q e.course) (is_at s e) (and_parts (in_curriculum p q e.course) (is_isolated p t q e) a.0).0 a.1)) t) in
        omega (arith, k, once_of_curriculum p path pins q s)

    compact_worth : compactness_cost p t q ≤ value_of p path (Compact q)
    compact_worth =
        let up = spread_up (λ e. one_if (good e)) (λ s e. one_if (good e && is_at s e)) t (all_slots p)
        (each_member (λ e. one_if (good e) ≤ sum_by (λ s. one_if (good e && is_at s e)) (all_slots p)) t (λ e m.
        let r = range_of p path e m in
        once_at_least (good e) (λ s. is_at s e) 1 (all_slots p)
        (any_slot p (λ s. is_at s e) e.day e.period r.day r.period (at_itself e)))) in
        let most = sum_by-le (λ s. count_by (λ e. good e && is_at s e) t)
        (λ s. one_if (pinned p path (Curriculum q) s && is_alone p path q s)) (all_slots p)
        (each (λ s. count_by (λ e. good e && is_at s e) t ≤ one_if (pinned p path (Curriculum q) s && is_alone p path q s)) (λ s.
        counted_once (count_by (λ e. good e && is_at s e) t) (pinned p path (Curriculum q) s && is_alone p path q s) (few_good s)
        (λ h. alone_where s (any_if_count (λ e. good e && is_at s e) t h))) (all_slots p)) in
        omega arith

  -- ---- all kinds

  capacity_parts : capacity_count p t ≤ sum_by (λ c. part p t (RoomCapacity c)) (all_courses p)
  capacity_parts =
      spread_up (λ e. excess p e.course e.room) (λ i e. cond (is_of i e) (excess p e.course e.room) 0) t (all_courses p)
      (each_member (λ e. excess p e.course e.room ≤ sum_by (λ i. cond (is_of i e) (excess p e.course e.room) 0) (all_courses p)) t (λ e m.
      once_at_least true (λ i. is_of i e) (excess p e.course e.room) (all_courses p)
      (any_below (λ i. is_of i e) (length p.courses) e.course (range_of p path e m).course (eq-eqb e.course e.course refl))))

  module _ (ok : IsInstance p) (b : Bound) (none : IsOpen p path b) where
    -- the value of the best claims is at least the cost of the live cells
    pub cost-le_total : cost p t ≤ total_of p path (best_claims p path)
    cost-le_total =
        omega (
          arith,
          total-claims Days (λ c. refl) p path,
          capacity_parts,
          sum_by-le (λ c. part p t (RoomCapacity c)) (λ c. sum_by (value_of p path) (at_price c (price_of p path c))) (all_courses p)
              (each_below (λ c. part p t (RoomCapacity c) ≤ sum_by (value_of p path) (at_price c (price_of p path c)))
              (length p.courses) (λ c h. capacity_worth p path pins b none c h)),
          sum_by-le (days_cost p t) (λ c. value_of p path (Days c)) (all_courses p)
              (each_below (λ c. days_cost p t c ≤ value_of p path (Days c)) (length p.courses) days_worth),
          sum_by-le (compactness_cost p t) (λ q. value_of p path (Compact q)) (all_curricula p)
              (each_below (λ q. compactness_cost p t q ≤ value_of p path (Compact q)) (length p.curricula)
              (λ q h. compact_worth q (members_below p q ok h))),
          sum_by-le (stability_cost p t) (λ c. value_of p path (Stable c)) (all_courses p)
              (each (λ c. stability_cost p t c ≤ value_of p path (Stable c)) stable_worth (all_courses p)),
        )

  -- if each feasible timetable on the path respects a bound, a leaf reaches it
  pub pinned_closes : IsInstance p → (b : Bound) → ((u : List Cell) → IsFeasible p u → Fits p u path → Respects b (cost p u))
      → IsOpen p path b → ⊥
  pinned_closes ok Nothing holds none = holds t (is_feasible p path pins Nothing none) (fits p path pins Nothing none)
  pinned_closes ok (AtLeast n) holds none =
      let below : n ≤ cost p t = holds t (is_feasible p path pins (AtLeast n) none) (fits p path pins (AtLeast n) none) in
      let total = total_of p path (best_claims p path) in
      let dear : n ≤ total = omega (arith, cost-le_total ok (AtLeast n) none) in
      none.best (all_different Days (λ c. refl) p path, all_fair Days (λ c. refl) p path (λ c. refl), dear)
