-- A plan as a timetable: each period has an entry for each course that the group concerns and that the plan has in this period, all in
-- room 0. It is a relaxed timetable and costs as much as the plan, so a bound of the group is a bound of all plans.
use Rattle.std.proofs.Common.{◌≡◌, ℕ, ◌+◌, ◌-◌, ◌*◌, ◌<◌, ◌≤◌, Bool, true, false, not, cond, ◌&&◌, List, [], ◌∷◌, length, refl, sym, ap, ◌∙◌, subst, arith, eqb-true, eq-eqb}
use Rattle.std.specs.Prelude.{Contains, ◌==◌, nat_lt, sum_by, count_by, flat_map}
use Rattle.std.specs.List.{list_any, AllByRecursion}
use Rattle.std.proofs.lemmas.Bool.{and_parts, and_from, both_ways, ltb-true}
use Rattle.tt_list_laws.specs.Words.{range_below}
use Rattle.tt_list_laws.proofs.Sums.{one_if, cond-le, sum_by-le, sum_by-same, sum_by-of_flat_map, list_any-of_flat_map, each, each_weaker, once_at_most}
use Rattle.tt_list_laws.proofs.Members.{at_member, any_member, member_from_any, none_counted}
use Rattle.tt_list_laws.proofs.Numbers.{any_below, count_below}
use Rattle.tt_list_laws.proofs.Tested.{each_flat}
use Rattle.tt_list_laws.proofs.Tests.{sum_by-same_below}
use Rattle.tt_list_laws.proofs.Truth.{same_truth}
use Rattle.tt_instance.specs.Problem.{Problem}
use Rattle.tt_instance.specs.Cells.{slot, slot_of, cell, all_slots, all_courses, is_of, is_at}
use Rattle.tt_instance.specs.Courses.{lectures, members, conflict, unavailable}
use Rattle.tt_instance.specs.declared.cell.Cell.{Cell}
use Rattle.tt_instance.specs.declared.cell.Slot.{Slot}
use Rattle.tt_instance.proofs.Cells.{IsSlot, each_slot, at_itself}
use Rattle.tt_instance.proofs.Places.{any_slot, slots_summed}
use Rattle.tt_rules.specs.Hard.{entries_of, periods_of, lectures_off, collide, conflicts_count, availability_count}
use Rattle.tt_rules.proofs.Feasible.{periods-le_entries}
use Rattle.tt_groups.specs.Group.{Group, group_cost, concerns, entries_for, IsRelaxedTimetable}
use Rattle.tt_groups.specs.Plans.{Day, Week, week_of, lectures_on, is_taught, is_single, day_cost, IsPlan, further, slack, base_cost, spent}
use Rattle.tt_groups.proofs.Exact.{plan-is_cost}
use Rattle.tt_groups.proofs.Lists.{sum_by-same_member, member_before}
use Rattle.tt_groups.proofs.Projection.{course_own, member_own, standing}
use Rattle.tt_list_laws.proofs.Counting.{pairs_none}

-- ---- lists

-- the count of passing elements in a list of one element, or of none
counted_if : {X : Type 0} (q : X → Bool) (b : Bool) (x : X) → count_by q (cond b (x ∷ []) []) ≡ one_if (b && q x)
counted_if q true x = omega arith
counted_if q false x = refl

any_if : {X : Type 0} (q : X → Bool) (b : Bool) (x : X) → b ≡ true → q x ≡ true → list_any q (cond b (x ∷ []) []) ≡ true
any_if q true x e h = any_member q (x ∷ []) x (0, omega arith, refl) h
any_if q false x e h = cc

each_if : {X : Type 0} (P : X → Type 0) (b : Bool) (x : X) → (b ≡ true → P x) → AllByRecursion P (cond b (x ∷ []) [])
each_if P true x h = (h refl, tt)
each_if P false x h = tt

-- ---- days and weeks that have the same courses of a group

taught_there : (p : Problem) (g : Group) (a b : Day) → ((s c : ℕ) → s < p.periods → concerns p g c ≡ true → a s c ≡ b s c)
    → (q s : ℕ) → Contains g.curricula q → is_taught p a q s ≡ true → is_taught p b q s ≡ true
taught_there p g a b same q s m e =
    let k = and_parts (nat_lt s p.periods) (list_any (a s) (members p q)) e in
    let w = member_from_any (a s) (members p q) k.1 in
    let own = member_own p g q m w.0 (any_member (λ c. c == w.0) (members p q) w.0 w.1 (eq-eqb w.0 w.0 refl)) in
    and_from (nat_lt s p.periods) (list_any (b s) (members p q)) k.0
    (any_member (b s) (members p q) w.0 w.1 (sym (same s w.0 (ltb-true s p.periods k.0) own) ∙ w.2))

module _ (p : Problem) (g : Group) (a b : Day) (same : (s c : ℕ) → s < p.periods → concerns p g c ≡ true → a s c ≡ b s c) where
  taught_same : (q s : ℕ) → Contains g.curricula q → is_taught p a q s ≡ is_taught p b q s
  taught_same q s m =
      same_truth (is_taught p a q s) (is_taught p b q s) (taught_there p g a b same q s m)
      (taught_there p g b a (λ i c k own. sym (same i c k own)) q s m)

  single_same : (q s : ℕ) → Contains g.curricula q → is_single p a q s ≡ is_single p b q s
  single_same q s m =
      ap (λ z. z && not (nat_lt 0 s && is_taught p a q (s - 1)) && not (is_taught p a q (s + 1))) (taught_same q s m)
      ∙ ap (λ z. is_taught p b q s && not (nat_lt 0 s && z) && not (is_taught p a q (s + 1))) (taught_same q (s - 1) m)
      ∙ ap (λ z. is_taught p b q s && not (nat_lt 0 s && is_taught p b q (s - 1)) && not z) (taught_same q (s + 1) m)

  day_same : day_cost p g a ≡ day_cost p g b
  day_same =
      sum_by-same_member (λ q. 2 * count_by (is_single p a q) (range_below p.periods))
      (λ q. 2 * count_by (is_single p b q) (range_below p.periods)) g.curricula
      (λ q m. let e = sum_by-same (λ s. one_if (is_single p a q s)) (λ s. one_if (is_single p b q s)) (range_below p.periods)
      (λ s. ap one_if (single_same q s m)) in omega (arith, e))

module _ (p : Problem) (g : Group) (a b : Week) (same : (d s c : ℕ) → d < p.days → s < p.periods → concerns p g c ≡ true
    → a d s c ≡ b d s c) where
  further_same : (c : ℕ) → concerns p g c ≡ true → further p a p.days c ≡ further p b p.days c
  further_same c own =
      sum_by-same_below (λ i. lectures_on p (a i) c - 1) (λ i. lectures_on p (b i) c - 1) p.days
      (λ i k. ap (λ n. n - 1) (sum_by-same_below (λ s. one_if (a i s c)) (λ s. one_if (b i s c)) p.periods
      (λ s l. ap one_if (same i s c k l own))))

  -- weeks that have the same courses of the group cost the same
  pub spent_same : spent p g a p.days ≡ spent p g b p.days
  spent_same =
      let days = sum_by-same_below (λ i. day_cost p g (a i)) (λ i. day_cost p g (b i)) p.days
      (λ i k. day_same p g (a i) (b i) (λ s c l own. same i s c k l own)) in
      let courses = sum_by-same_member (λ c. 5 * (further p a p.days c - slack p c)) (λ c. 5 * (further p b p.days c - slack p c)) g.courses
      (λ c m. ap (λ n. 5 * (n - slack p c)) (further_same c (course_own p g c m))) in
      omega (arith, days, courses)

-- ---- the timetable of a plan

module _ (p : Problem) (g : Group) (week : Week) (plan : IsPlan p g week) (there : (c : ℕ) → concerns p g c ≡ true
    → c < length p.courses) where
  abbrev is_needed : Slot → ℕ → Bool
  is_needed s c = concerns p g c && week s.day s.period c

  abbrev one_entry : Slot → ℕ → List Cell
  one_entry s c = cond (is_needed s c) (cell c 0 s ∷ []) []

  abbrev entries_at : Slot → List Cell
  entries_at s = flat_map (one_entry s) (all_courses p)

  abbrev pub built : List Cell
  built = flat_map entries_at (all_slots p)

  record IsBuilt (x : Cell) : Type 0 where
    own : concerns p g x.course ≡ true
    inside : IsSlot p (slot_of x)
    taught : week x.day x.period x.course ≡ true

  built_at : (s : Slot) → IsSlot p s → AllByRecursion IsBuilt (entries_at s)
  built_at s h =
      each_flat IsBuilt (one_entry s) (all_courses p)
      (each (λ c. AllByRecursion IsBuilt (one_entry s c)) (λ c. each_if IsBuilt (is_needed s c) (cell c 0 s)
      (λ e. let k = and_parts (concerns p g c) (week s.day s.period c) e in
      record { own = k.0; inside = record { day = h.day; period = h.period }; taught = k.1 })) (all_courses p))

  is_built : (x : Cell) → Contains built x → IsBuilt x
  is_built x m =
      at_member IsBuilt built x
      (each_flat IsBuilt entries_at (all_slots p) (each_weaker (IsSlot p) (λ s. AllByRecursion IsBuilt (entries_at s)) built_at
      (all_slots p) (each_slot p))) m

  -- each lecture of the plan has an entry
  found : (d s c : ℕ) → d < p.days → s < p.periods → is_needed (slot d s) c ≡ true → week_of built d s c ≡ true
  found d s c k l e =
      let test : Cell → Bool = λ x. is_of c x && is_at (slot d s) x in
      let own = (and_parts (concerns p g c) (week d s c) e).0 in
      list_any-of_flat_map test entries_at (all_slots p)
      ∙ any_slot p (λ z. list_any test (entries_at z)) d s k l
      (list_any-of_flat_map test (one_entry (slot d s)) (all_courses p)
      ∙ any_below (λ n. list_any test (one_entry (slot d s) n)) (length p.courses) c (there c own)
      (any_if test (is_needed (slot d s) c) (cell c 0 (slot d s)) e
      (and_from (c == c) (is_at (slot d s) (cell c 0 (slot d s))) (eq-eqb c c refl) (at_itself (cell c 0 (slot d s))))))

  -- the week of the timetable is the plan
  agrees : (d s c : ℕ) → d < p.days → s < p.periods → concerns p g c ≡ true → week_of built d s c ≡ week d s c
  agrees d s c k l own = same_truth (week_of built d s c) (week d s c)
      (λ e.
      let x = standing built d s c e in
      let b = is_built x.0 x.1 in
      let day : x.0.day ≡ d = ap (λ z. z.day) x.3 in
      let period : x.0.period ≡ s = ap (λ z. z.period) x.3 in
      sym (ap (λ i. week i x.0.period x.0.course) day ∙ ap (λ i. week d i x.0.course) period ∙ ap (week d s) x.2) ∙ b.taught)
      (λ e. found d s c k l (and_from (concerns p g c) (week d s c) own e))

  module _ (c : ℕ) (own : concerns p g c ≡ true) where
    planned : sum_by (λ s. one_if (week s.day s.period c)) (all_slots p) ≡ lectures p c
    planned = slots_summed p (λ s. one_if (week s.day s.period c)) ∙ plan.lectures c own

    -- a period has at most one entry of the course, and only if the plan has the course in it
    once_at : (s : Slot) → count_by (is_of c) (entries_at s) ≤ one_if (week s.day s.period c)
    once_at s =
        let test : Cell → ℕ = λ x. one_if (is_of c x) in
        let spread = sum_by-of_flat_map test (one_entry s) (all_courses p) in
        let each_n = sum_by-same (λ n. sum_by test (one_entry s n)) (λ n. one_if (is_needed s n && (n == c))) (all_courses p)
        (λ n. counted_if (is_of c) (is_needed s n) (cell n 0 s)) in
        let turned = sum_by-le (λ n. one_if (is_needed s n && (n == c))) (λ n. one_if (is_needed s c && (c == n))) (all_courses p)
        (each (λ n. one_if (is_needed s n && (n == c)) ≤ one_if (is_needed s c && (c == n)))
        (λ n. cond-le (is_needed s n && (n == c)) (is_needed s c && (c == n)) (λ h.
        let k = and_parts (is_needed s n) (n == c) h in
        let e = eqb-true n c k.1 in
        and_from (is_needed s c) (c == n) (subst (λ i. is_needed s i ≡ true) e k.0) (eq-eqb c n (sym e)))) (all_courses p)) in
        let once = once_at_most (is_needed s c) (λ n. c == n) 1 (all_courses p) (count_below c (length p.courses)) in
        let taught = cond-le (is_needed s c) (week s.day s.period c) (λ h. (and_parts (concerns p g c) (week s.day s.period c) h).1) in
        omega (arith, spread, each_n, turned, once, taught)

    entries-le : entries_of built c ≤ lectures p c
    entries-le =
        let spread = sum_by-of_flat_map (λ x. one_if (is_of c x)) entries_at (all_slots p) in
        let up = sum_by-le (λ s. count_by (is_of c) (entries_at s)) (λ s. one_if (week s.day s.period c)) (all_slots p)
        (each (λ s. count_by (is_of c) (entries_at s) ≤ one_if (week s.day s.period c)) once_at (all_slots p)) in
        omega (arith, spread, up, planned)

    periods-ge : lectures p c ≤ periods_of p built c
    periods-ge =
        let has : Slot → Bool = λ s. list_any (λ e. is_of c e && is_at s e) built in
        let up = sum_by-le (λ s. one_if (week s.day s.period c)) (λ s. one_if (has s)) (all_slots p)
        (each_weaker (IsSlot p) (λ s. one_if (week s.day s.period c) ≤ one_if (has s)) (λ s h. cond-le (week s.day s.period c) (has s)
        (λ e. found s.day s.period c h.day h.period (and_from (concerns p g c) (week s.day s.period c) own e))) (all_slots p)
        (each_slot p)) in
        omega (arith, up, planned)

    all_lectures : lectures_off p built c ≡ 0
    all_lectures = omega (arith, entries-le, periods-ge, periods-le_entries p built c)

  kept_before : (x : Cell) → Contains (entries_for p g built) x → IsBuilt x
  kept_before x m = is_built x (member_before (λ e. concerns p g e.course) built x m)

  no_collisions : conflicts_count p (entries_for p g built) ≡ 0
  no_collisions = pairs_none (collide p) (entries_for p g built) (λ x y m n h.
      let a = kept_before x m in
      let b = kept_before y n in
      let k = and_parts ((x.day == y.day) && (x.period == y.period)) (conflict p x.course y.course) h in
      let l = and_parts (x.day == y.day) (x.period == y.period) k.0 in
      let day = eqb-true x.day y.day l.0 in
      let period = eqb-true x.period y.period l.1 in
      let other : week x.day x.period y.course ≡ true = ap (λ i. week i x.period y.course) day ∙ ap (λ i. week y.day i y.course) period
      ∙ b.taught in
      both_ways (conflict p x.course y.course)
      ((plan.days x.day a.inside.day).apart x.period x.course y.course a.inside.period a.own b.own a.taught other) k.1)

  all_available : availability_count p (entries_for p g built) ≡ 0
  all_available = none_counted (λ e. unavailable p e.course e.day e.period) (entries_for p g built) (λ x m h.
      let a = kept_before x m in
      both_ways (unavailable p x.course x.day x.period)
      ((plan.days x.day a.inside.day).available x.period x.course a.inside.period a.own a.taught) h)

  pub is_relaxed : IsRelaxedTimetable p g built
  is_relaxed = record { lectures = all_lectures; conflicts = no_collisions; availability = all_available }

  pub built_cost : group_cost p g built ≡ base_cost p g + spent p g week p.days
  built_cost = sym (plan-is_cost p g built is_relaxed) ∙ ap (λ n. base_cost p g + n) (spent_same p g (week_of built) week agrees)
