-- Properties of a timetable that breaks no hard rule.
use Rattle.std.proofs.Common.{◌≡◌, ℕ, ◌-◌, ◌≤◌, ◌<◌, true, false, ◌&&◌, List, length, sym, ap, ◌∙◌, arith, inl, inr, eqb-true}
use Rattle.std.specs.Prelude.{sum_by, count_by, Contains, ◌==◌}
use Rattle.std.specs.List.{list_any, AllByRecursion}
use Rattle.std.proofs.lemmas.List.{get_or_past}
use Rattle.std.proofs.lemmas.List.Elements.{All-contains}
use Rattle.std.proofs.lemmas.Bool.{and_parts, and_from, and_right, cases_lt}
use Rattle.tt_instance.specs.Problem.{Problem}
use Rattle.tt_instance.proofs.Exclusion.{eqb-turn, conflict-turn, conflict-itself}
use Rattle.tt_instance.specs.Cells.{slot_of, all_slots, all_courses, all_rooms, InRange, is_of, is_at, is_in}
use Rattle.tt_instance.specs.Courses.{no_course, lectures, conflict, unavailable}
use Rattle.tt_instance.specs.declared.cell.Slot.{Slot}
use Rattle.tt_rules.specs.Hard.{entries_of, periods_of, lectures_off, entries_in, collide}
use Rattle.tt_rules.specs.Score.{IsFeasible}
use Rattle.tt_instance.specs.declared.cell.Cell.{Cell}
use Rattle.tt_list_laws.proofs.Sums.{one_if, sum_by-zero_each, sum_by-tight, each, each_weaker, one_if_any, one_if-le, spread_down, once_at_most, sum_by-le}
use Rattle.tt_instance.proofs.Places.{count_slots, each_slot_at}
use Rattle.tt_list_laws.proofs.Members.{none_passes, none_counted, no_two, each_below_at}

-- ---- entries that collide

pub collide-turn : (p : Problem) (x y : Cell) → collide p x y ≡ true → collide p y x ≡ true
collide-turn p x y e =
    let h = and_parts ((x.day == y.day) && (x.period == y.period)) (conflict p x.course y.course) e in
    let k = and_parts (x.day == y.day) (x.period == y.period) h.0 in
    and_from ((y.day == x.day) && (y.period == x.period)) (conflict p y.course x.course)
    (and_from (y.day == x.day) (y.period == x.period) (eqb-turn x.day y.day k.0) (eqb-turn x.period y.period k.1))
    (conflict-turn p x.course y.course h.1)

pub collide-itself : (p : Problem) (x : Cell) → collide p x x ≡ false
collide-itself p x = and_right ((x.day == x.day) && (x.period == x.period)) (conflict p x.course x.course) (conflict-itself p x.course)

-- ---- the counts

-- a course's entries in all periods, added up, are at most all its entries
pub in_periods : (p : Problem) (t : List Cell) (c : ℕ) → sum_by (λ s. count_by (λ e. is_of c e && is_at s e) t)
    (all_slots p) ≤ entries_of t c
in_periods p t c =
    spread_down (λ e. one_if (is_of c e)) (λ s e. one_if (is_of c e && is_at s e)) t (all_slots p)
    (each (λ e. sum_by (λ s. one_if (is_of c e && is_at s e)) (all_slots p) ≤ one_if (is_of c e))
    (λ e. once_at_most (is_of c e) (λ s. is_at s e) 1 (all_slots p) (count_slots p e)) t)

-- a course has an entry in each of its periods
pub periods-le_entries : (p : Problem) (t : List Cell) (c : ℕ) → periods_of p t c ≤ entries_of t c
periods-le_entries p t c =
    let one : Slot → ℕ = λ s. one_if (list_any (λ e. is_of c e && is_at s e) t) in
    let many : Slot → ℕ = λ s. count_by (λ e. is_of c e && is_at s e) t in
    let at_most = in_periods p t c in
    let k = sum_by-le one many (all_slots p) (each (λ s. one s ≤ many s) (λ s. one_if_any (λ e. is_of c e && is_at s e) t) (all_slots p)) in
    omega arith

module _ (p : Problem) (t : List Cell) (ok : IsFeasible p t) where
  pub in_range : (x : Cell) → Contains t x → InRange p x
  in_range x h = All-contains (InRange p) t x ok.timetable h

  no_lectures_off : (c : ℕ) → c < length p.courses → lectures_off p t c ≡ 0
  no_lectures_off c h =
      each_below_at (λ k. lectures_off p t k ≡ 0) (length p.courses) c (sum_by-zero_each (lectures_off p t) (all_courses p) ok.lectures) h

  no_entries : (c : ℕ) → length p.courses ≤ c → entries_of t c ≡ 0
  no_entries c h = none_counted (is_of c) t (λ x m e. let r = in_range x m in let k = eqb-true x.course c e in
      absurd (omega (arith, r.course)))

  -- each course has its lectures
  pub lectures_met : (c : ℕ) → entries_of t c ≡ lectures p c
  lectures_met c = elim (cases_lt c (length p.courses)) [
    | inl h ↦ let e = no_lectures_off c h in omega arith
    | inr h ↦ no_entries c h ∙ ap (λ k. k.lectures) (sym (get_or_past p.courses c no_course h))
  ]

  pub in_distinct_periods : (c : ℕ) → entries_of t c ≤ periods_of p t c
  in_distinct_periods c = elim (cases_lt c (length p.courses)) [
    | inl h ↦ let e = no_lectures_off c h in omega arith
    | inr h ↦ omega (arith, no_entries c h)
  ]

  -- a course has at most one entry in a period
  pub once_a_period : (c : ℕ) → AllByRecursion (λ s. count_by (λ e. is_of c e && is_at s e) t ≤ 1) (all_slots p)
  once_a_period c =
      let one : Slot → ℕ = λ s. one_if (list_any (λ e. is_of c e && is_at s e) t) in
      let many : Slot → ℕ = λ s. count_by (λ e. is_of c e && is_at s e) t in
      let at_most = in_periods p t c in
      let tight = sum_by-tight one many (all_slots p) (each (λ s. one s ≤ many s) (λ s. one_if_any (λ e. is_of c e && is_at s e) t)
      (all_slots p)) (omega (arith, in_distinct_periods c)) in
      each_weaker (λ s. many s ≤ one s) (λ s. many s ≤ 1) (λ s h. let k = one_if-le (list_any (λ e. is_of c e && is_at s e) t) in
      omega arith) (all_slots p) tight

  pub once_at : (c : ℕ) (x : Cell) → InRange p x → count_by (λ e. is_of c e && is_at (slot_of x) e) t ≤ 1
  once_at c x h = each_slot_at p (λ s. count_by (λ e. is_of c e && is_at s e) t ≤ 1) x.day x.period (once_a_period c) h.day h.period

  -- a room has at most one entry in a period
  pub one_in_room : AllByRecursion (λ r. AllByRecursion (λ s. entries_in t r s ≤ 1) (all_slots p)) (all_rooms p)
  one_in_room =
      each_weaker (λ r. sum_by (λ s. entries_in t r s - 1) (all_slots p) ≡ 0)
      (λ r. AllByRecursion (λ s. entries_in t r s ≤ 1) (all_slots p))
      (λ r h. each_weaker (λ s. entries_in t r s - 1 ≡ 0) (λ s. entries_in t r s ≤ 1) (λ s k. omega arith) (all_slots p)
      (sum_by-zero_each (λ s. entries_in t r s - 1) (all_slots p) h))
      (all_rooms p) (sum_by-zero_each (λ r. sum_by (λ s. entries_in t r s - 1) (all_slots p)) (all_rooms p) ok.room_occupancy)

  -- a room has at most one entry in a period, also a room that is out of range and has none
  pub one_in_each : (r : ℕ) → AllByRecursion (λ s. entries_in t r s ≤ 1) (all_slots p)
  one_in_each r = elim (cases_lt r (length p.rooms)) [
    | inl h ↦ each_below_at (λ i. AllByRecursion (λ s. entries_in t i s ≤ 1) (all_slots p)) (length p.rooms) r one_in_room h
    | inr h ↦ each (λ s. entries_in t r s ≤ 1) (λ s.
        let e = none_counted (λ e. is_in r e && is_at s e) t (λ x m k.
        let i = in_range x m in
        let same = eqb-true x.room r (and_parts (is_in r x) (is_at s x) k).0 in
        absurd (omega (arith, i.room))) in
        omega arith) (all_slots p)
  ]

  pub one_in : (x : Cell) → InRange p x → entries_in t x.room (slot_of x) ≤ 1
  one_in x h =
      each_slot_at p (λ s. entries_in t x.room s ≤ 1) x.day x.period
      (each_below_at (λ r. AllByRecursion (λ s. entries_in t r s ≤ 1) (all_slots p)) (length p.rooms) x.room one_in_room h.room) h.day
      h.period

  -- two courses that conflict have no period in common
  pub no_collision : (x y : Cell) → Contains t x → Contains t y → collide p x y ≡ true → ⊥
  no_collision x y hx hy = no_two (collide p) (collide-turn p) (collide-itself p) t ok.conflicts x y hx hy

  pub available : (x : Cell) → Contains t x → unavailable p x.course x.day x.period ≡ false
  available x h = none_passes (λ e. unavailable p e.course e.day e.period) t x ok.availability h
