-- The leaf rules in the form in which the code goes through them agree with the rules.
use Rattle.std.proofs.Common.{◌≡◌, ℕ, Bool, true, false, not, ◌&&◌, ◌||◌, ◌<◌, ◌≤◌, ◌+◌, ◌-◌, List, refl, sym, ap, ◌∙◌, subst, arith, inl, inr, eqb-true, eq-eqb, ltb-true, lt-ltb, le-leb}
use Rattle.std.specs.Prelude.{nat_lt, nat_le, ◌==◌, length, None, Some}
use Rattle.std.specs.List.{list_all, list_any}
use Rattle.std.proofs.lemmas.Bool.{and_parts, and_from, or_cases, or_left, or_right}
use Rattle.tt_instance.specs.Problem.{Problem}
use Rattle.tt_instance.specs.Cells.{slot, next_to, cell, all_rooms, all_slots, all_courses}
use Rattle.tt_instance.specs.Courses.{members, excess, no_curriculum}
use Rattle.tt_instance.specs.declared.cell.Slot.{Slot}
use Rattle.tt_path.specs.Facts.{agrees, is_who, matches}
use Rattle.tt_path.specs.Live.{is_dead, is_live, live_period}
use Rattle.tt_path.specs.Inner.Nested.{courses_of}
use Rattle.tt_path.specs.declared.facts.Who.TheVariants.{Course, Curriculum}
use Rattle.tt_path.specs.declared.facts.Pattern.{Pattern}
use Rattle.tt_path.specs.declared.facts.Fact.{Fact}
use Rattle.std.proofs.Math.Bool.{and-true}
use Rattle.std.proofs.lemmas.List.{get_or_past}
use Rattle.tt_list_laws.specs.Words.{has_number}
use Rattle.tt_list_laws.proofs.All.{list_all-same}
use Rattle.tt_list_laws.proofs.Below.{all_pass}
use Rattle.tt_list_laws.proofs.Twos.{neither, list_all-not, list_all-swap}
use Rattle.tt_list_laws.proofs.Sums.{list_any_with, each_weaker}
use Rattle.tt_list_laws.proofs.Truth.{same_truth}
use Rattle.tt_instance.proofs.Places.{any_slot}
use Rattle.tt_instance.proofs.Slots.{cells_in_rooms}
use Rattle.tt_instance.proofs.Cells.{IsSlot, each_slot}
use Rattle.tt_path.proofs.Given.{at_number, list_all-of_members}
use Rattle.tt_path.proofs.Lost.{is_who-has}
use Rattle.tt_leaf_rules.specs.Leaves.{all_dead}
use Rattle.tt_leaf_rules.specs.Claims.{is_alone, price_in}
use Rattle.tt_leaf_rules.specs.Inner.Nested.{are_rooms_dead, is_period_dead, is_course_dead, is_gone_or_dead, live_before, live_after, covered_in}

-- ---- dead cells

module _ (p : Problem) (path : List Fact) (c : ℕ) (s : Slot) where
  pub are_rooms_dead-any : not (live_period p path c s) ≡ are_rooms_dead p path None c s
  are_rooms_dead-any =
      sym (list_all-not (λ r. is_live p path (cell c r s)) (all_rooms p))
      ∙ list_all-same (λ r. not (is_live p path (cell c r s))) (λ r. is_dead p path (cell c r s)) (all_rooms p)
      (λ r. twice (is_dead p path (cell c r s)))
    where
      twice : (b : Bool) → not (not b) ≡ b
      twice true = refl
      twice false = refl

  pub are_rooms_dead-one : (r : ℕ) → are_rooms_dead p path (Some r) c s ≡ (nat_le (length p.rooms) r || is_dead p path (cell c r s))
  are_rooms_dead-one r = at_number (λ k. is_dead p path (cell c k s)) (length p.rooms) r

module _ (p : Problem) (path : List Fact) (g : Pattern) where
  by_period : (u a b d : Bool) → (not (u && a && b) || d) ≡ ((not a || not b) || (not u || d))
  by_period true true true d = refl
  by_period true true false d = refl
  by_period true false b d = refl
  by_period false true true d = refl
  by_period false true false d = refl
  by_period false false b d = refl

  each_or : (k : Bool) (t : ℕ → Bool) (rs : List ℕ) → list_all (λ r. k || t r) rs ≡ (k || list_all t rs)
  each_or true t rs = all_pass (λ r. true) rs (λ r. refl)
  each_or false t rs = refl

  in_period : (c : ℕ) (s : Slot)
      → list_all (λ r. not (agrees g.room r && agrees g.day s.day && agrees g.period s.period) || is_dead p path (cell c r s))
      (all_rooms p) ≡ is_period_dead p path g c s
  in_period c s =
      list_all-same (λ r. not (agrees g.room r && agrees g.day s.day && agrees g.period s.period) || is_dead p path (cell c r s))
      (λ r. (not (agrees g.day s.day) || not (agrees g.period s.period)) || (not (agrees g.room r) || is_dead p path (cell c r s)))
      (all_rooms p)
      (λ r. by_period (agrees g.room r) (agrees g.day s.day) (agrees g.period s.period) (is_dead p path (cell c r s)))
      ∙ each_or (not (agrees g.day s.day) || not (agrees g.period s.period)) (λ r. not (agrees g.room r) || is_dead p path (cell c r s))
      (all_rooms p)

  dead_cells : (c : ℕ) (b : Bool)
      → list_all (λ r. list_all (λ s. not (b && agrees g.room r && agrees g.day s.day && agrees g.period s.period) || is_dead p path
      (cell c r s)) (all_slots p)) (all_rooms p) ≡ (not b || is_course_dead p path g c)
  dead_cells c true =
      list_all-swap (λ r s. not (agrees g.room r && agrees g.day s.day && agrees g.period s.period) || is_dead p path (cell c r s))
      (all_rooms p) (all_slots p)
      ∙ list_all-same
      (λ s. list_all (λ r. not (agrees g.room r && agrees g.day s.day && agrees g.period s.period) || is_dead p path (cell c r s))
      (all_rooms p)) (is_period_dead p path g c) (all_slots p) (in_period c)
  dead_cells c false = all_pass (λ r. list_all (λ s. true) (all_slots p)) (all_rooms p)
      (λ r. all_pass (λ s. true) (all_slots p) (λ s. refl))

  all_dead-by_course : all_dead p path g ≡ list_all (is_gone_or_dead p path g) (courses_of p g.who)
  all_dead-by_course =
      cells_in_rooms p (λ x. not (matches p g x) || is_dead p path x)
      ∙ list_all-same (λ c. list_all (λ r. list_all (λ s. not (matches p g (cell c r s)) || is_dead p path (cell c r s)) (all_slots p))
      (all_rooms p)) (λ c. not (has_number (courses_of p g.who) c) || is_course_dead p path g c) (all_courses p)
      (λ c. dead_cells c (is_who p g.who c) ∙ ap (λ b. not b || is_course_dead p path g c) (is_who-has p g.who c))
      ∙ list_all-of_members (is_course_dead p path g) (length p.courses) (courses_of p g.who)

  -- the form in which the code goes through the courses that the pattern means
  pub all_dead-by_one : (a : ℕ) → g.who ≡ Course a → all_dead p path g ≡ is_gone_or_dead p path g a
  all_dead-by_one a e = all_dead-by_course ∙ ap (λ w. list_all (is_gone_or_dead p path g) (courses_of p w)) e
      ∙ and-true (is_gone_or_dead p path g a)

  pub all_dead-by_members : (q : ℕ) → g.who ≡ Curriculum q → all_dead p path g ≡ list_all (is_gone_or_dead p path g) (members p q)
  all_dead-by_members q e = all_dead-by_course ∙ ap (λ w. list_all (is_gone_or_dead p path g) (courses_of p w)) e

  pub all_dead-by_nobody : (q : ℕ) → g.who ≡ Curriculum q → length p.curricula ≤ q → all_dead p path g ≡ true
  all_dead-by_nobody q e h =
      all_dead-by_members q e ∙ ap (λ c. list_all (is_gone_or_dead p path g) c.members) (get_or_past p.curricula q no_curriculum h)

-- ---- the neighbours of a period

-- a neighbour of a period on its day is the period before it or the one after it
beside : (p : Problem) (t : Slot → Bool) (s : Slot) → s.day < p.days → s.period < p.periods → list_any (λ n. next_to n s && t n)
    (all_slots p) ≡
    ((nat_lt 0 s.period && t (slot s.day (s.period - 1))) || (nat_lt (s.period + 1) p.periods && t (slot s.day (s.period + 1))))
beside p t s day period = same_truth (list_any (λ n. next_to n s && t n) (all_slots p)) (left || right) there back
  where
    left : Bool
    left = nat_lt 0 s.period && t (slot s.day (s.period - 1))

    right : Bool
    right = nat_lt (s.period + 1) p.periods && t (slot s.day (s.period + 1))

    at : (n : Slot) (d i : ℕ) → t n ≡ true → n.day ≡ d → n.period ≡ i → t (slot d i) ≡ true
    at n d i h ed ei = subst (λ x. t (slot x i) ≡ true) ed (subst (λ x. t (slot n.day x) ≡ true) ei h)

    there : list_any (λ n. next_to n s && t n) (all_slots p) ≡ true → (left || right) ≡ true
    there e =
        let w = list_any_with (λ n. n.period < p.periods) (λ n. next_to n s && t n) (all_slots p)
        (each_weaker (IsSlot p) (λ n. n.period < p.periods) (λ n i. i.period) (all_slots p) (each_slot p)) e in
        let n = w.0 in
        let a = and_parts (next_to n s) (t n) w.2 in
        let b = and_parts (n.day == s.day) ((n.period == s.period + 1) || (n.period + 1 == s.period)) a.0 in
        let same = eqb-true n.day s.day b.0 in
        elim (or_cases (n.period == s.period + 1) (n.period + 1 == s.period) b.1) [
          | inl k ↦
              let behind = eqb-true n.period (s.period + 1) k in
              let below : s.period + 1 < p.periods = omega (arith, w.1) in
              or_right left right (and_from (nat_lt (s.period + 1) p.periods) (t (slot s.day (s.period + 1)))
              (lt-ltb (s.period + 1) p.periods below) (at n s.day (s.period + 1) a.1 same behind))
          | inr k ↦
              let ahead = eqb-true (n.period + 1) s.period k in
              let above : 0 < s.period = omega arith in
              or_left left right (and_from (nat_lt 0 s.period) (t (slot s.day (s.period - 1))) (lt-ltb 0 s.period above)
              (at n s.day (s.period - 1) a.1 same (omega arith)))
        ]

    back : (left || right) ≡ true → list_any (λ n. next_to n s && t n) (all_slots p) ≡ true
    back e = elim (or_cases left right e) [
      | inl l ↦
          let a = and_parts (nat_lt 0 s.period) (t (slot s.day (s.period - 1))) l in
          let above = ltb-true 0 s.period a.0 in
          let before : s.period - 1 + 1 ≡ s.period = omega arith in
          let n = slot s.day (s.period - 1) in
          any_slot p (λ z. next_to z s && t z) s.day (s.period - 1) day (omega arith)
          (and_from (next_to n s) (t n)
          (and_from (s.day == s.day) ((s.period - 1 == s.period + 1) || (s.period - 1 + 1 == s.period)) (eq-eqb s.day s.day refl)
          (or_right (s.period - 1 == s.period + 1) (s.period - 1 + 1 == s.period) (eq-eqb (s.period - 1 + 1) s.period before)))
          a.1)
      | inr r ↦
          let a = and_parts (nat_lt (s.period + 1) p.periods) (t (slot s.day (s.period + 1))) r in
          let n = slot s.day (s.period + 1) in
          any_slot p (λ z. next_to z s && t z) s.day (s.period + 1) day (ltb-true (s.period + 1) p.periods a.0)
          (and_from (next_to n s) (t n)
          (and_from (s.day == s.day) ((s.period + 1 == s.period + 1) || (s.period + 1 + 1 == s.period)) (eq-eqb s.day s.day refl)
          (or_left (s.period + 1 == s.period + 1) (s.period + 1 + 1 == s.period) (eq-eqb (s.period + 1) (s.period + 1) refl)))
          a.1)
    ]

module _ (p : Problem) (path : List Fact) (q : ℕ) (s : Slot) (day : s.day < p.days) (period : s.period < p.periods) (cs : List ℕ)
    (are : cs ≡ members p q) where
  pub by_sides : is_alone p path q s ≡ (not (live_before p path cs s) && not (live_after p path cs s))
  by_sides =
      ap not (beside p (λ n. list_any (λ c. live_period p path c n) (members p q)) s day period)
      ∙ neither (live_before p path (members p q) s) (live_after p path (members p q) s)
      ∙ ap (λ ms. not (live_before p path ms s) && not (live_after p path ms s)) (sym are)

-- ---- prices

pub covered_by_price : (p : Problem) (path : List Fact) (rooms : List (ℕ × ℕ)) (k : ℕ × ℕ) (r : ℕ)
    → k.1 ≤ excess p k.0 r + price_in rooms r → covered_in p path rooms k r ≡ true
covered_by_price p path rooms k r h =
    all_pass (λ s. not (is_live p path (cell k.0 r s)) || nat_le k.1 (excess p k.0 r + price_in rooms r)) (all_slots p)
    (λ s. or_right (not (is_live p path (cell k.0 r s))) (nat_le k.1 (excess p k.0 r + price_in rooms r))
    (le-leb k.1 (excess p k.0 r + price_in rooms r) h))
