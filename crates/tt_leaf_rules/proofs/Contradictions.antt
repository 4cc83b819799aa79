-- If one of the first four leaves is right, no feasible timetable fits the path.
use Rattle.std.proofs.Common.{◌≡◌, ℕ, ◌≤◌, ◌<◌, true, false, not, ◌&&◌, ◌||◌, List, length, refl, sym, ap, ◌∙◌, subst, arith, inl, inr, eqb-true, eq-eqb}
use Rattle.std.specs.Prelude.{Contains, ◌==◌, sum_by, count_by}
use Rattle.std.specs.List.{list_any, AllByRecursion}
use Rattle.std.proofs.lemmas.Bool.{and_parts, and_from, or_cases, not-true, both_ways}
use Rattle.tt_list_laws.specs.Words.{each_two, are_distinct}
use Rattle.tt_instance.specs.Problem.{Problem}
use Rattle.tt_instance.specs.Cells.{slot_of, cell, all_slots, all_rooms, is_of, is_at, is_in}
use Rattle.tt_instance.specs.Courses.{lectures, conflict}
use Rattle.tt_instance.specs.declared.cell.Slot.{Slot}
use Rattle.tt_rules.specs.Hard.{entries_of, periods_of, entries_in}
use Rattle.tt_rules.specs.Score.{IsFeasible}
use Rattle.tt_path.specs.Facts.{matches, Fits}
use Rattle.tt_path.specs.Live.{is_dead, is_live, live_period, pinned, pinned_periods}
use Rattle.tt_leaf_rules.specs.Leaves.{all_dead, open_periods, open_rooms, all_lectures}
use Rattle.tt_instance.specs.declared.cell.Cell.{Cell}
use Rattle.tt_path.specs.declared.facts.Who.TheVariants.{Course}
use Rattle.tt_path.specs.declared.facts.Pattern.{Pattern}
use Rattle.tt_path.specs.declared.facts.Fact.{Fact}
use Rattle.tt_list_laws.proofs.Sums.{one_if, cond-le, sum_by-le, sum_by-same, each, each_weaker, any_if_count, spread_up, once_at_least}
use Rattle.tt_instance.proofs.Places.{any_slot, each_cell_at}
use Rattle.tt_instance.proofs.Cells.{at_itself, is_at-slot}
use Rattle.tt_list_laws.proofs.Numbers.{any_below}
use Rattle.tt_list_laws.proofs.Members.{at_member, each_member, any_member, member_from_any, only_one}
use Rattle.tt_list_laws.proofs.Apart.{one_at_most}
use Rattle.tt_rules.proofs.Feasible.{in_range, lectures_met, once_a_period, one_in_room, no_collision, periods-le_entries}
use Rattle.tt_leaf_rules.proofs.Live.{matched, not_dead, live_entry, live_period_of, pinned_entry}

module _ (p : Problem) (t : List Cell) (ok : IsFeasible p t) (path : List Fact) (fits : Fits p t path) where
  pub empty_sound : (g : Pattern) → Contains path (record { pattern = g; holds = true }) → all_dead p path g ≡ true → ⊥
  empty_sound g there d =
      let m = matched p t ok path fits (record { pattern = g; holds = true }) there refl in
      let x = m.0 in
      let here = each_cell_at p (λ z. not (matches p g z) || is_dead p path z) x d (in_range p t ok x m.1) in
      elim (or_cases (not (matches p g x)) (is_dead p path x) here) [
        | inl n ↦ both_ways (matches p g x) (not-true (matches p g x) n) m.2
        | inr b ↦ not_dead p t ok path fits x m.1 b
      ]

  pub pinned_at_most : (c : ℕ) → pinned_periods p path (Course c) ≤ periods_of p t c
  pinned_at_most c =
      sum_by-le (λ s. one_if (pinned p path (Course c) s)) (λ s. one_if (list_any (λ e. is_of c e && is_at s e) t)) (all_slots p)
      (each (λ s. one_if (pinned p path (Course c) s) ≤ one_if (list_any (λ e. is_of c e && is_at s e) t)) (λ s.
      cond-le (pinned p path (Course c) s) (list_any (λ e. is_of c e && is_at s e) t) (λ h.
      let w = pinned_entry p t ok path fits (Course c) s h in
      any_member (λ e. is_of c e && is_at s e) t w.0 w.1 (and_from (is_of c w.0) (is_at s w.0) w.2 w.3)))
      (all_slots p))

  pub many_sound : (c : ℕ) → lectures p c < pinned_periods p path (Course c) → ⊥
  many_sound c h = omega (arith, pinned_at_most c, periods-le_entries p t c, lectures_met p t ok c)

  -- ---- Clique

  slots_up : (c : ℕ) → entries_of t c ≤ sum_by (λ s. count_by (λ e. is_of c e && is_at s e) t) (all_slots p)
  slots_up c =
      spread_up (λ e. one_if (is_of c e)) (λ s e. one_if (is_of c e && is_at s e)) t (all_slots p)
      (each_member (λ e. one_if (is_of c e) ≤ sum_by (λ s. one_if (is_of c e && is_at s e)) (all_slots p)) t (λ e h.
      let r = in_range p t ok e h in
      once_at_least (is_of c e) (λ s. is_at s e) 1 (all_slots p) (any_slot p (λ s. is_at s e) e.day e.period r.day r.period (at_itself e))))

  entry_at : (c : ℕ) (s : Slot) → 1 ≤ count_by (λ e. is_of c e && is_at s e) t → (x : Cell) × Contains t x × (x.course ≡ c)
      × (slot_of x ≡ s)
  entry_at c s h =
      let w = member_from_any (λ e. is_of c e && is_at s e) t (any_if_count (λ e. is_of c e && is_at s e) t h) in
      let a = and_parts (is_of c w.0) (is_at s w.0) w.2 in
      (w.0, w.1, eqb-true w.0.course c a.0, is_at-slot s w.0 a.1)

  never_both : (a b : ℕ) (s : Slot) → conflict p a b ≡ true → 1 ≤ count_by (λ e. is_of a e && is_at s e) t
      → 1 ≤ count_by (λ e. is_of b e && is_at s e) t → ⊥
  never_both a b s r ha hb =
      let v = entry_at a s ha in
      let w = entry_at b s hb in
      let x = v.0 in
      let y = w.0 in
      let same = v.3 ∙ sym w.3 in
      no_collision p t ok x y v.1 w.1
      (and_from ((x.day == y.day) && (x.period == y.period)) (conflict p x.course y.course)
      (and_from (x.day == y.day) (x.period == y.period) (eq-eqb x.day y.day (ap (λ z. z.day) same))
      (eq-eqb x.period y.period (ap (λ z. z.period) same)))
      (subst (λ c. conflict p c y.course ≡ true) (sym v.2) (subst (λ c. conflict p a c ≡ true) (sym w.2) r)))

  live_at : (c : ℕ) (s : Slot) → 1 ≤ count_by (λ e. is_of c e && is_at s e) t → live_period p path c s ≡ true
  live_at c s h =
      let w = entry_at c s h in
      subst (λ z. live_period p path c z ≡ true) w.3
      (subst (λ a. live_period p path a (slot_of w.0) ≡ true) w.2 (live_period_of p t ok path fits w.0 w.1))

  pub clique_sound : (cs : List ℕ) → each_two (conflict p) cs ≡ true → open_periods p path cs < all_lectures p cs → ⊥
  clique_sound cs k h =
      let n : Slot → ℕ → ℕ = λ s c. count_by (λ e. is_of c e && is_at s e) t in
      let met = sum_by-same (lectures p) (entries_of t) cs (λ c. sym (lectures_met p t ok c)) in
      let up = spread_up (entries_of t) n cs (all_slots p) (each (λ c. entries_of t c ≤ sum_by (λ s. n s c) (all_slots p)) slots_up cs) in
      let most = sum_by-le (λ s. sum_by (n s) cs) (λ s. one_if (list_any (λ c. live_period p path c s) cs)) (all_slots p)
      (each_member (λ s. sum_by (n s) cs ≤ one_if (list_any (λ c. live_period p path c s) cs)) (all_slots p) (λ s m.
      one_at_most (conflict p) (n s) (λ c. live_period p path c s) cs k
      (λ a b r x y. never_both a b s r x y)
      (λ c. at_member (λ z. n z c ≤ 1) (all_slots p) s (once_a_period p t ok c) m)
      (λ c x. live_at c s x))) in
      omega arith

  -- ---- Slots

  pub rooms_up : (c : ℕ) → entries_of t c ≤ sum_by (λ r. count_by (λ e. is_of c e && is_in r e) t) (all_rooms p)
  rooms_up c =
      spread_up (λ e. one_if (is_of c e)) (λ r e. one_if (is_of c e && is_in r e)) t (all_rooms p)
      (each_member (λ e. one_if (is_of c e) ≤ sum_by (λ r. one_if (is_of c e && is_in r e)) (all_rooms p)) t (λ e h.
      let r = in_range p t ok e h in
      once_at_least (is_of c e) (λ i. is_in i e) 1 (all_rooms p)
      (any_below (λ i. is_in i e) (length p.rooms) e.room r.room (eq-eqb e.room e.room refl))))

  room_slots_up : (c r : ℕ) → count_by (λ e. is_of c e && is_in r e) t ≤ sum_by
      (λ s. count_by (λ e. is_of c e && is_in r e && is_at s e) t) (all_slots p)
  room_slots_up c r =
      spread_up (λ e. one_if (is_of c e && is_in r e)) (λ s e. one_if (is_of c e && is_in r e && is_at s e)) t (all_slots p)
      (each_member (λ e. one_if (is_of c e && is_in r e) ≤ sum_by (λ s. one_if (is_of c e && is_in r e && is_at s e)) (all_slots p)) t
      (λ e h.
      let i = in_range p t ok e h in
      once_at_least (is_of c e && is_in r e) (λ s. is_at s e) 1 (all_slots p)
      (any_slot p (λ s. is_at s e) e.day e.period i.day i.period (at_itself e))))

  entry_in : (c r : ℕ) (s : Slot) → 1 ≤ count_by (λ e. is_of c e && is_in r e && is_at s e) t → (x : Cell) × Contains t x
      × (x.course ≡ c) × (x.room ≡ r) × (slot_of x ≡ s)
  entry_in c r s h =
      let test = λ (e : Cell). is_of c e && is_in r e && is_at s e in
      let w = member_from_any test t (any_if_count test t h) in
      let a = and_parts (is_of c w.0 && is_in r w.0) (is_at s w.0) w.2 in
      let b = and_parts (is_of c w.0) (is_in r w.0) a.0 in
      (w.0, w.1, eqb-true w.0.course c b.0, eqb-true w.0.room r b.1, is_at-slot s w.0 a.1)

  live_in : (c r : ℕ) (s : Slot) → 1 ≤ count_by (λ e. is_of c e && is_in r e && is_at s e) t → is_live p path (cell c r s) ≡ true
  live_in c r s h =
      let w = entry_in c r s h in
      subst (λ z. is_live p path (cell c r z) ≡ true) w.4
      (subst (λ i. is_live p path (cell c i (slot_of w.0)) ≡ true) w.3
      (subst (λ a. is_live p path (cell a w.0.room (slot_of w.0)) ≡ true) w.2 (live_entry p t ok path fits w.0 w.1)))

  room_bound : (c r : ℕ) (s : Slot) → count_by (λ e. is_of c e && is_in r e && is_at s e) t ≤ entries_in t r s
  room_bound c r s =
      sum_by-le (λ e. one_if (is_of c e && is_in r e && is_at s e)) (λ e. one_if (is_in r e && is_at s e)) t
      (each (λ e. one_if (is_of c e && is_in r e && is_at s e) ≤ one_if (is_in r e && is_at s e)) (λ e.
      cond-le (is_of c e && is_in r e && is_at s e) (is_in r e && is_at s e) (λ h.
      let a = and_parts (is_of c e && is_in r e) (is_at s e) h in
      let b = and_parts (is_of c e) (is_in r e) a.0 in
      and_from (is_in r e) (is_at s e) b.1 a.1)) t)

  never_two : (r : ℕ) (s : Slot) → entries_in t r s ≤ 1 → (a b : ℕ) → not (a == b) ≡ true
      → 1 ≤ count_by (λ e. is_of a e && is_in r e && is_at s e) t → 1 ≤ count_by (λ e. is_of b e && is_in r e && is_at s e) t → ⊥
  never_two r s one a b d ha hb =
      let v = entry_in a r s ha in
      let w = entry_in b r s hb in
      let x = v.0 in
      let y = w.0 in
      let same_course = λ (u z : Cell). u.course == z.course in
      let here : (u : Cell) → u.room ≡ r → slot_of u ≡ s → (is_in r u && is_at s u) ≡ true = λ u i e.
      and_from (is_in r u) (is_at s u) (eq-eqb u.room r i) (subst (λ z. is_at z u ≡ true) e (at_itself u)) in
      only_one same_course (λ e. is_in r e && is_at s e) t x y (eq-eqb x.course x.course refl) one v.1 w.1 (here x v.3 v.4) (here y w.3 w.4)
      (subst (λ c. (c == y.course) ≡ false) (sym v.2) (subst (λ c. (a == c) ≡ false) (sym w.2) (not-true (a == b) d)))

  -- distinct courses have at most as many entries in a room as there are periods with a live cell of one of them
  pub in_room_at_most : (cs : List ℕ) → are_distinct cs ≡ true → (r : ℕ) → AllByRecursion (λ s. entries_in t r s ≤ 1) (all_slots p)
      → sum_by (λ c. count_by (λ e. is_of c e && is_in r e) t) cs ≤ count_by (λ s. list_any (λ c. is_live p path (cell c r s)) cs)
      (all_slots p)
  in_room_at_most cs k r one =
      let n : Slot → ℕ → ℕ = λ s c. count_by (λ e. is_of c e && is_in r e && is_at s e) t in
      let up = spread_up (λ c. count_by (λ e. is_of c e && is_in r e) t) n cs (all_slots p)
      (each (λ c. count_by (λ e. is_of c e && is_in r e) t ≤ sum_by (λ s. n s c) (all_slots p)) (λ c. room_slots_up c r) cs) in
      let there = sum_by-le (λ s. sum_by (n s) cs) (λ s. one_if (list_any (λ c. is_live p path (cell c r s)) cs)) (all_slots p)
      (each_weaker (λ s. entries_in t r s ≤ 1) (λ s. sum_by (n s) cs ≤ one_if (list_any (λ c. is_live p path (cell c r s)) cs))
      (λ s e. one_at_most (λ a b. not (a == b)) (n s) (λ c. is_live p path (cell c r s)) cs k (never_two r s e)
      (λ c. omega (arith, room_bound c r s)) (λ c. live_in c r s))
      (all_slots p) one) in
      omega arith

  pub slots_sound : (cs : List ℕ) → are_distinct cs ≡ true → open_rooms p path cs < all_lectures p cs → ⊥
  slots_sound cs k h =
      let there : ℕ → ℕ → ℕ = λ r c. count_by (λ e. is_of c e && is_in r e) t in
      let free : ℕ → ℕ = λ r. count_by (λ s. list_any (λ c. is_live p path (cell c r s)) cs) (all_slots p) in
      let met = sum_by-same (lectures p) (entries_of t) cs (λ c. sym (lectures_met p t ok c)) in
      let up = spread_up (entries_of t) there cs (all_rooms p)
      (each (λ c. entries_of t c ≤ sum_by (λ r. there r c) (all_rooms p)) rooms_up cs) in
      let most = sum_by-le (λ r. sum_by (there r) cs) free (all_rooms p)
      (each_weaker (λ r. AllByRecursion (λ s. entries_in t r s ≤ 1) (all_slots p)) (λ r. sum_by (there r) cs ≤ free r)
      (λ r one. in_room_at_most cs k r one) (all_rooms p) (one_in_room p t ok)) in
      omega arith
