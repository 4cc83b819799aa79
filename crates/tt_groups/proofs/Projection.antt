-- The week of a relaxed timetable is a plan, and costs no more than the group does in the timetable.
use Rattle.std.proofs.Common.{◌≡◌, ℕ, ◌+◌, ◌-◌, ◌*◌, ◌≤◌, Bool, true, not, ◌&&◌, ◌||◌, List, refl, sym, ap, ◌∙◌, subst, arith, inl, inr, eqb-true, eq-eqb, lt-ltb}
use Rattle.std.specs.Prelude.{Contains, ◌==◌, nat_lt, sum_by, count_by}
use Rattle.std.specs.List.{list_any}
use Rattle.std.proofs.lemmas.Bool.{and_parts, and_from, both_ways, not-true, not_from_false, false_from_ne_true, or_cases, or_left, or_right}
use Rattle.tt_list_laws.specs.Words.{has_number, range_below}
use Rattle.tt_list_laws.proofs.Sums.{one_if, cond-le, sum_by-le, sum_by-plus, sum_by-same, sum_by-swap, sum_by-times, one_if_any, each, spread_down, once_at_most}
use Rattle.tt_list_laws.proofs.Members.{each_member, member_from_any, any_member}
use Rattle.tt_list_laws.proofs.Numbers.{any_below}
use Rattle.tt_list_laws.proofs.Tests.{first_and_others}
use Rattle.tt_list_laws.proofs.Truth.{same_truth}
use Rattle.tt_instance.specs.Problem.{Problem}
use Rattle.tt_instance.specs.Cells.{slot, slot_of, next_to, all_slots, all_days, is_of, is_at, is_on}
use Rattle.tt_instance.specs.Courses.{lectures, min_days, members, in_curriculum, conflict, unavailable}
use Rattle.tt_instance.specs.declared.cell.Cell.{Cell}
use Rattle.tt_instance.specs.declared.cell.Slot.{Slot}
use Rattle.tt_instance.proofs.Cells.{is_at-slot, at_itself}
use Rattle.tt_instance.proofs.Places.{count_slots, slots_summed}
use Rattle.tt_rules.specs.Soft.{days_of, days_cost, is_isolated, compactness_cost}
use Rattle.tt_groups.specs.Group.{Group, group_cost, concerns, IsRelaxedTimetable}
use Rattle.tt_groups.specs.Plans.{week_of, lectures_on, is_taught, is_single, day_cost, IsPlan, further, slack, base_cost, spent}
use Rattle.tt_groups.proofs.Weeks.{periods_met, in_week, no_clash, open_there}
use Rattle.tt_groups.proofs.Lists.{sum_by-same_member}

-- ---- courses of the group

pub course_own : (p : Problem) (g : Group) (c : ℕ) → Contains g.courses c → concerns p g c ≡ true
course_own p g c m = or_left (has_number g.courses c) (list_any (λ q. in_curriculum p q c) g.curricula)
    (any_member (λ k. k == c) g.courses c m (eq-eqb c c refl))

pub member_own : (p : Problem) (g : Group) (q : ℕ) → Contains g.curricula q → (c : ℕ) → in_curriculum p q c ≡ true → concerns p g c ≡ true
member_own p g q m c e = or_right (has_number g.courses c) (list_any (λ k. in_curriculum p k c) g.curricula)
    (any_member (λ k. in_curriculum p k c) g.curricula q m e)

-- a period that has a course has an entry of it
pub standing : (t : List Cell) (d s c : ℕ) → week_of t d s c ≡ true → (x : Cell) × Contains t x × (x.course ≡ c) × (slot_of x ≡ slot d s)
standing t d s c e =
    let w = member_from_any (λ x. is_of c x && is_at (slot d s) x) t e in
    let k = and_parts (is_of c w.0) (is_at (slot d s) w.0) w.2 in
    (w.0, w.1, eqb-true w.0.course c k.0, is_at-slot (slot d s) w.0 k.1)

-- the period of an entry has its course
pub stands : (t : List Cell) (x : Cell) → Contains t x → week_of t x.day x.period x.course ≡ true
stands t x m =
    any_member (λ y. is_of x.course y && is_at (slot x.day x.period) y) t x m
    (and_from (is_of x.course x) (is_at (slot x.day x.period) x) (eq-eqb x.course x.course refl) (at_itself x))

module _ (p : Problem) (g : Group) (t : List Cell) (relaxed : IsRelaxedTimetable p g t) where
  -- ---- working days

  -- a course is taught on a day if and only if it is taught in one of the day's periods
  pub day_taught : (c : ℕ) → concerns p g c ≡ true → (d : ℕ) → list_any (λ e. is_of c e && is_on d e) t ≡ list_any
      (λ s. week_of t d s c) (range_below p.periods)
  day_taught c own d = same_truth (list_any (λ e. is_of c e && is_on d e) t) (list_any (λ s. week_of t d s c) (range_below p.periods))
      there back
    where
      there : list_any (λ e. is_of c e && is_on d e) t ≡ true → list_any (λ s. week_of t d s c) (range_below p.periods) ≡ true
      there e =
          let w = member_from_any (λ x. is_of c x && is_on d x) t e in
          let k = and_parts (is_of c w.0) (is_on d w.0) w.2 in
          let here = subst (λ i. week_of t i w.0.period w.0.course ≡ true) (eqb-true w.0.day d k.1) (stands t w.0 w.1) in
          any_below (λ s. week_of t d s c) p.periods w.0.period (in_week p g t relaxed c own w.0 w.1 k.0).period
          (subst (λ i. week_of t d w.0.period i ≡ true) (eqb-true w.0.course c k.0) here)

      back : list_any (λ s. week_of t d s c) (range_below p.periods) ≡ true → list_any (λ e. is_of c e && is_on d e) t ≡ true
      back e =
          let w = member_from_any (λ s. week_of t d s c) (range_below p.periods) e in
          let x = standing t d w.0 c w.2 in
          any_member (λ e. is_of c e && is_on d e) t x.0 x.1
          (and_from (is_of c x.0) (is_on d x.0) (eq-eqb x.0.course c x.2) (eq-eqb x.0.day d (ap (λ z. z.day) x.3)))

  -- over all days, a course has all its lectures
  pub lectures_stand : (c : ℕ) → concerns p g c ≡ true → sum_by (λ d. lectures_on p (week_of t d) c) (all_days p) ≡ lectures p c
  lectures_stand c own = sym (slots_summed p (λ s. one_if (list_any (λ e. is_of c e && is_at s e) t))) ∙ periods_met p g t relaxed c own

  -- The excess: the first lecture on each day adds a working day, and each further lecture adds none.
  pub days_and_further : (c : ℕ) → concerns p g c ≡ true → days_of p t c + further p (week_of t) p.days c ≡ lectures p c
  days_and_further c own =
      let more : ℕ → ℕ = λ d. lectures_on p (week_of t d) c - 1 in
      let first : ℕ → ℕ = λ d. one_if (list_any (λ e. is_of c e && is_on d e) t) in
      let both = sum_by-plus more first (all_days p) in
      let all = sum_by-same (λ d. more d + first d) (λ d. lectures_on p (week_of t d) c) (all_days p) (λ d.
      ap (λ b. more d + one_if b) (day_taught c own d) ∙ first_and_others (λ s. week_of t d s c) (range_below p.periods)) in
      omega (arith, both, all, lectures_stand c own)

  -- so a course pays for the days that it can't have, and for further lectures beyond those that are free
  pub days_cost-excess : (c : ℕ) → concerns p g c ≡ true → days_cost p t c ≡ 5 * (min_days p c - lectures p c) + 5 *
      (further p (week_of t) p.days c - slack p c)
  days_cost-excess c own = let e = days_and_further c own in omega arith

  -- ---- compactness

  module _ (q : ℕ) (own : (c : ℕ) → in_curriculum p q c ≡ true → concerns p g c ≡ true) where
    -- in the period of an entry of the curriculum, the curriculum is taught
    pub taught_by : (x : Cell) → Contains t x → in_curriculum p q x.course ≡ true → is_taught p (week_of t x.day) q x.period ≡ true
    taught_by x m e =
        let w = member_from_any (λ c. c == x.course) (members p q) e in
        let slot_there = in_week p g t relaxed x.course (own x.course e) x m (eq-eqb x.course x.course refl) in
        and_from (nat_lt x.period p.periods) (list_any (week_of t x.day x.period) (members p q))
        (lt-ltb x.period p.periods slot_there.period)
        (any_member (week_of t x.day x.period) (members p q) w.0 w.1
        (subst (λ c. week_of t x.day x.period c ≡ true) (sym (eqb-true w.0 x.course w.2)) (stands t x m)))

    -- a period in which the curriculum is taught has an entry of it
    pub taught_entry : (d s : ℕ) → is_taught p (week_of t d) q s ≡ true → (x : Cell) × Contains t x
        × (in_curriculum p q x.course ≡ true) × (slot_of x ≡ slot d s)
    taught_entry d s e =
        let w = member_from_any (week_of t d s) (members p q)
        (and_parts (nat_lt s p.periods) (list_any (week_of t d s) (members p q)) e).1 in
        let x = standing t d s w.0 w.2 in
        (x.0, x.1, any_member (λ c. c == x.0.course) (members p q) w.0 w.1 (eq-eqb w.0 x.0.course (sym x.2)), x.3)

    -- if a period is single, no entry of the curriculum is in the period before or after it
    never_beside : (d s : ℕ) → is_single p (week_of t d) q s ≡ true → (x : Cell) → Contains t x → in_curriculum p q x.course ≡ true
        → next_to (slot_of x) (slot d s) ≡ true → ⊥
    never_beside d s e x m i n =
        let taught = is_taught p (week_of t d) q in
        let before = nat_lt 0 s && taught (s - 1) in
        let a = and_parts (taught s && not before) (not (taught (s + 1))) e in
        let b = and_parts (taught s) (not before) a.0 in
        let k = and_parts (x.day == d) ((x.period == s + 1) || (x.period + 1 == s)) n in
        let here : taught x.period ≡ true = subst (λ z. is_taught p (week_of t z) q x.period ≡ true) (eqb-true x.day d k.0)
        (taught_by x m i) in
        elim (or_cases (x.period == s + 1) (x.period + 1 == s) k.1) [
          | inl f ↦ both_ways (taught (s + 1)) (not-true (taught (s + 1)) a.1)
              (subst (λ z. taught z ≡ true) (eqb-true x.period (s + 1) f) here)
          | inr f ↦
              let h = eqb-true (x.period + 1) s f in
              let z : x.period ≡ s - 1 = omega arith in
              both_ways before (not-true before b.1) (and_from (nat_lt 0 s) (taught (s - 1)) (lt-ltb 0 s (omega arith))
              (subst (λ z. taught z ≡ true) z here))
        ]

    -- a single period has an isolated entry of the curriculum
    single_isolated : (d s : ℕ) → is_single p (week_of t d) q s ≡ true
        → list_any (λ e. (in_curriculum p q e.course && is_isolated p t q e) && is_at (slot d s) e) t ≡ true
    single_isolated d s e =
        let taught = is_taught p (week_of t d) q in
        let before = nat_lt 0 s && taught (s - 1) in
        let a = and_parts (taught s && not before) (not (taught (s + 1))) e in
        let b = and_parts (taught s) (not before) a.0 in
        let x = taught_entry d s b.0 in
        let beside : Cell → Bool = λ y. in_curriculum p q y.course && next_to (slot_of y) (slot_of x.0) in
        let alone : is_isolated p t q x.0 ≡ true = not_from_false (list_any beside t) (false_from_ne_true (list_any beside t) (λ h.
        let y = member_from_any beside t h in
        let k = and_parts (in_curriculum p q y.0.course) (next_to (slot_of y.0) (slot_of x.0)) y.2 in
        never_beside d s e y.0 y.1 k.0 (subst (λ z. next_to (slot_of y.0) z ≡ true) x.3 k.1))) in
        any_member (λ e. (in_curriculum p q e.course && is_isolated p t q e) && is_at (slot d s) e) t x.0 x.1
        (and_from (in_curriculum p q x.0.course && is_isolated p t q x.0) (is_at (slot d s) x.0)
        (and_from (in_curriculum p q x.0.course) (is_isolated p t q x.0) x.2 alone)
        (subst (λ z. is_at z x.0 ≡ true) x.3 (at_itself x.0)))

    -- there are no more single periods than isolated entries
    pub singles-le : sum_by (λ d. count_by (is_single p (week_of t d) q) (range_below p.periods)) (all_days p) ≤ count_by
        (λ e. in_curriculum p q e.course && is_isolated p t q e) t
    singles-le =
        let good : Cell → Bool = λ e. in_curriculum p q e.course && is_isolated p t q e in
        let single : Slot → Bool = λ s. is_single p (week_of t s.day) q s.period in
        let days = slots_summed p (λ s. one_if (single s)) in
        let a = sum_by-le (λ s. one_if (single s)) (λ s. count_by (λ e. good e && is_at s e) t) (all_slots p)
        (each (λ s. one_if (single s) ≤ count_by (λ e. good e && is_at s e) t) (λ s.
        let k = cond-le (single s) (list_any (λ e. good e && is_at s e) t) (single_isolated s.day s.period) in
        omega (arith, k, one_if_any (λ e. good e && is_at s e) t)) (all_slots p)) in
        let b = spread_down (λ e. one_if (good e)) (λ s e. one_if (good e && is_at s e)) t (all_slots p)
        (each (λ e. sum_by (λ s. one_if (good e && is_at s e)) (all_slots p) ≤ one_if (good e))
        (λ e. once_at_most (good e) (λ s. is_at s e) 1 (all_slots p) (count_slots p e)) t) in
        omega (arith, days, a, b)

  -- -- all together

  -- the week of the timetable is a plan
  pub plan_of : IsPlan p g (week_of t)
  plan_of = record {
    days = λ d h. record {
      available = λ s c k own e.
          let x = standing t d s c e in
          let day : x.0.day ≡ d = ap (λ z. z.day) x.3 in
          let period : x.0.period ≡ s = ap (λ z. z.period) x.3 in
          let free = open_there p g t relaxed x.0 x.1 (subst (λ i. concerns p g i ≡ true) (sym x.2) own) in
          sym (ap (λ i. unavailable p i x.0.day x.0.period) x.2 ∙ ap (λ i. unavailable p c i x.0.period) day
          ∙ ap (unavailable p c d) period) ∙ free;
      apart = λ s a b k own_a own_b ea eb.
          let x = standing t d s a ea in
          let y = standing t d s b eb in
          let same = x.3 ∙ sym y.3 in
          false_from_ne_true (conflict p a b) (λ f. no_clash p g t relaxed x.0 y.0 x.1 y.1
          (subst (λ i. concerns p g i ≡ true) (sym x.2) own_a) (subst (λ i. concerns p g i ≡ true) (sym y.2) own_b)
          (and_from ((x.0.day == y.0.day) && (x.0.period == y.0.period)) (conflict p x.0.course y.0.course)
          (and_from (x.0.day == y.0.day) (x.0.period == y.0.period) (eq-eqb x.0.day y.0.day (ap (λ z. z.day) same))
          (eq-eqb x.0.period y.0.period (ap (λ z. z.period) same)))
          (ap (λ i. conflict p i y.0.course) x.2 ∙ ap (conflict p a) y.2 ∙ f)));
    };
    lectures = lectures_stand;
  }

  -- the days cost no more than the curricula do
  days-le_curricula : sum_by (λ d. day_cost p g (week_of t d)) (all_days p) ≤ sum_by (compactness_cost p t) g.curricula
  days-le_curricula =
      let singles : ℕ → ℕ → ℕ = λ q d. count_by (is_single p (week_of t d) q) (range_below p.periods) in
      let turned = sum_by-swap (λ d q. 2 * singles q d) (all_days p) g.curricula in
      let each_q = sum_by-le (λ q. sum_by (λ d. 2 * singles q d) (all_days p)) (compactness_cost p t) g.curricula
      (each_member (λ q. sum_by (λ d. 2 * singles q d) (all_days p) ≤ compactness_cost p t q) g.curricula (λ q m.
      let e = sum_by-times (singles q) 2 (all_days p) in
      let f = sum_by-same (λ d. 2 * singles q d) (λ d. singles q d * 2) (all_days p) (λ d. omega arith) in
      omega (arith, e, f, singles-le q (member_own p g q m)))) in
      omega (arith, turned, each_q)

  -- the cost of each course beyond its base cost
  pub courses_excess : sum_by (days_cost p t) g.courses ≡ base_cost p g + sum_by (λ c. 5 * (further p (week_of t) p.days c - slack p c))
      g.courses
  courses_excess =
      let low : ℕ → ℕ = λ c. 5 * (min_days p c - lectures p c) in
      let high : ℕ → ℕ = λ c. 5 * (further p (week_of t) p.days c - slack p c) in
      sum_by-same_member (days_cost p t) (λ c. low c + high c) g.courses (λ c m. days_cost-excess c (course_own p g c m))
      ∙ sum_by-plus low high g.courses

  -- a relaxed timetable costs at least as much as its plan
  pub plan-le_cost : base_cost p g + spent p g (week_of t) p.days ≤ group_cost p g t
  plan-le_cost = omega (arith, days-le_curricula, courses_excess)
