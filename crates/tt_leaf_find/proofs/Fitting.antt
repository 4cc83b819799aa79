-- If the path has each live cell's own pattern as a yes-fact, and none of the leaves without claims is right, the live cells are a
-- timetable that breaks no hard rule and fits the path.
use Rattle.std.proofs.Common.{◌≡◌, ℕ, ◌-◌, ◌≤◌, ◌<◌, Bool, true, false, not, ◌&&◌, ◌||◌, List, [], ◌∷◌, length, refl, sym, ap, ◌∙◌, subst, arith, inl, inr, eqb-true, eq-eqb}
use Rattle.std.specs.Prelude.{Contains, ◌==◌, sum_by, count_by, nat_lt}
use Rattle.std.specs.List.{list_any}
use Rattle.std.proofs.lemmas.List.Elements.{All-from_recursion}
use Rattle.std.proofs.lemmas.List.Sums.{sum_by-cons}
use Rattle.std.proofs.lemmas.Bool.{and_parts, and_from, or_left, or_right, or_parts, cases_Bool, not-true, not-false, not_from_false, both_ways, false_from_ne_true, ltb-true, ltb-false}
use Rattle.tt_list_laws.proofs.Sums.{sum_by-le, sum_by-same, sum_by-nothing, one_if, cond-le, each, each_weaker, any_if_count, spread_up, once_at_least}
use Rattle.tt_list_laws.proofs.Tests.{sum_by-same_below}
use Rattle.tt_list_laws.proofs.Numbers.{any_below}
use Rattle.tt_list_laws.proofs.Members.{member_from_any, any_member, each_member, none_counted}
use Rattle.tt_list_laws.proofs.Tested.{fails_with}
use Rattle.tt_list_laws.proofs.Counting.{counted_once, pairs_none}
use Rattle.tt_list_laws.proofs.Range.{below_member}
use Rattle.tt_instance.specs.Problem.{Problem}
use Rattle.tt_instance.specs.Cells.{slot_of, cell, is_at, is_of, all_cells, all_slots, all_rooms, all_courses, InRange}
use Rattle.tt_instance.specs.Courses.{lectures, one_teacher, one_curriculum, conflict, unavailable}
use Rattle.tt_instance.specs.declared.cell.Slot.{Slot}
use Rattle.tt_instance.specs.declared.cell.Cell.{Cell}
use Rattle.tt_instance.proofs.Places.{any_slot}
use Rattle.tt_instance.proofs.Exclusion.{conflict-turn}
use Rattle.tt_instance.proofs.Cells.{at_itself, is_at-slot, IsSlot, each_slot, each_cell}
use Rattle.tt_rules.specs.Hard.{entries_of, periods_of, lectures_off, entries_in, collide, conflicts_count, availability_count, occupancy_count}
use Rattle.tt_rules.specs.Score.{IsFeasible}
use Rattle.tt_rules.proofs.Feasible.{periods-le_entries}
use Rattle.tt_path.specs.Facts.{matches, Holds, Fits}
use Rattle.tt_path.specs.Live.{is_dead, is_live, live_period, pinned, pinned_room, pinned_periods, is_pinned_by, gives}
use Rattle.tt_path.specs.declared.facts.Who.{Who}
use Rattle.tt_path.specs.declared.facts.Who.TheVariants.{Course}
use Rattle.tt_path.specs.declared.facts.Pattern.{Pattern}
use Rattle.tt_path.specs.declared.facts.Fact.{Fact}
use Rattle.tt_path.proofs.LiveCells.{live_cells, live_in_range, range_of, is_live_of, any_live, live_not_barred}
use Rattle.tt_leaf_rules.specs.Leaves.{all_dead, open_periods, all_lectures}
use Rattle.tt_leaf.specs.declared.leaf.Bound.{Bound}
use Rattle.tt_leaf_find.specs.Pinned.{IsPinnedDown, IsOpen}
use Rattle.tt_leaf_find.proofs.LiveCells.{own_fact, same_live, once_of, once_in}

module _ (p : Problem) (path : List Fact) (pins : IsPinnedDown p path) where
  abbrev t : List Cell
  t = live_cells p path

  -- -- the periods and rooms that a live cell pins

  pub pinned_at : (who : Who) (x : Cell) → InRange p x → is_live p path x ≡ true → is_pinned_by p who (Course x.course) ≡ true
      → pinned p path who (slot_of x) ≡ true
  pinned_at who x r l e =
      let w = own_fact path x (pins x r l) in
      let f = w.0 in
      let test : Pattern → Bool = λ g. f.holds && is_pinned_by p who g.who && gives g.day x.day && gives g.period x.period in
      any_member (λ k. k.holds && is_pinned_by p who k.pattern.who && gives k.pattern.day x.day && gives k.pattern.period x.period) path
      f w.1
      (subst (λ g. test g ≡ true) (sym w.3)
      (and_from (f.holds && is_pinned_by p who (Course x.course) && (x.day == x.day)) (x.period == x.period)
      (and_from (f.holds && is_pinned_by p who (Course x.course)) (x.day == x.day)
      (and_from f.holds (is_pinned_by p who (Course x.course)) w.2 e) (eq-eqb x.day x.day refl)) (eq-eqb x.period x.period refl)))

  pub pinned_room_at : (x : Cell) → InRange p x → is_live p path x ≡ true → pinned_room p path x.course x.room ≡ true
  pinned_room_at x r l =
      let w = own_fact path x (pins x r l) in
      let f = w.0 in
      let test : Pattern → Bool = λ g. f.holds && is_pinned_by p (Course x.course) g.who && gives g.room x.room in
      any_member (λ k. k.holds && is_pinned_by p (Course x.course) k.pattern.who && gives k.pattern.room x.room) path f w.1
      (subst (λ g. test g ≡ true) (sym w.3)
      (and_from (f.holds && (x.course == x.course)) (x.room == x.room)
      (and_from f.holds (x.course == x.course) w.2 (eq-eqb x.course x.course refl)) (eq-eqb x.room x.room refl)))

  -- ---- live periods are the periods of the live cells

  -- the live cell of a live period
  pub live_at : (c : ℕ) → c < length p.courses → (s : Slot) → IsSlot p s → live_period p path c s ≡ true
      → (r : ℕ) × InRange p (cell c r s) × (is_live p path (cell c r s) ≡ true)
  live_at c h s i e =
      let w = member_from_any (λ r. is_live p path (cell c r s)) (all_rooms p) e in
      (w.0, record { course = h; room = below_member (length p.rooms) w.0 w.1; day = i.day; period = i.period }, w.2)

  pub entry_at : (c : ℕ) → c < length p.courses → (s : Slot) → IsSlot p s → live_period p path c s ≡ true
      → list_any (λ e. is_of c e && is_at s e) t ≡ true
  entry_at c h s i e =
      let w = live_at c h s i e in
      any_live p path (λ x. is_of c x && is_at s x) (cell c w.0 s) w.1 w.2
      (and_from (c == c) (is_at s (cell c w.0 s)) (eq-eqb c c refl) (at_itself (cell c w.0 s)))

  pub live_of : (x : Cell) → Contains t x → live_period p path x.course (slot_of x) ≡ true
  live_of x m =
      any_below (λ r. is_live p path (cell x.course r (slot_of x))) (length p.rooms) x.room (range_of p path x m).room
      (is_live_of p path x m)

  pub live_entry_at : (c : ℕ) (s : Slot) → list_any (λ e. is_of c e && is_at s e) t ≡ true → live_period p path c s ≡ true
  live_entry_at c s e =
      let w = member_from_any (λ x. is_of c x && is_at s x) t e in
      let a = and_parts (is_of c w.0) (is_at s w.0) w.2 in
      subst (λ i. live_period p path i s ≡ true) (eqb-true w.0.course c a.0)
      (subst (λ z. live_period p path w.0.course z ≡ true) (is_at-slot s w.0 a.1) (live_of w.0 w.1))

  -- each live cell of a course has a period of its own
  pub entries-le : (c : ℕ) → entries_of t c ≤ count_by (live_period p path c) (all_slots p)
  entries-le c =
      let up = spread_up (λ e. one_if (is_of c e)) (λ s e. one_if (is_of c e && is_at s e)) t (all_slots p)
      (each_member (λ e. one_if (is_of c e) ≤ sum_by (λ s. one_if (is_of c e && is_at s e)) (all_slots p)) t (λ e m.
      let r = range_of p path e m in
      once_at_least (is_of c e) (λ s. is_at s e) 1 (all_slots p)
      (any_slot p (λ s. is_at s e) e.day e.period r.day r.period (at_itself e)))) in
      let most = sum_by-le (λ s. count_by (λ e. is_of c e && is_at s e) t) (λ s. one_if (live_period p path c s)) (all_slots p)
      (each (λ s. count_by (λ e. is_of c e && is_at s e) t ≤ one_if (live_period p path c s)) (λ s.
      counted_once (count_by (λ e. is_of c e && is_at s e) t) (live_period p path c s) (once_of p path pins c s)
      (λ k. live_entry_at c s (any_if_count (λ e. is_of c e && is_at s e) t k))) (all_slots p)) in
      omega arith

  pub live-le_periods : (c : ℕ) → c < length p.courses → count_by (live_period p path c) (all_slots p) ≤ periods_of p t c
  live-le_periods c h =
      sum_by-le (λ s. one_if (live_period p path c s)) (λ s. one_if (list_any (λ e. is_of c e && is_at s e) t)) (all_slots p)
      (each_weaker (IsSlot p) (λ s. one_if (live_period p path c s) ≤ one_if (list_any (λ e. is_of c e && is_at s e) t)) (λ s i.
      cond-le (live_period p path c s) (list_any (λ e. is_of c e && is_at s e) t) (entry_at c h s i)) (all_slots p) (each_slot p))

  live-le_pinned : (c : ℕ) → c < length p.courses → count_by (live_period p path c) (all_slots p) ≤ pinned_periods p path (Course c)
  live-le_pinned c h =
      sum_by-le (λ s. one_if (live_period p path c s)) (λ s. one_if (pinned p path (Course c) s)) (all_slots p)
      (each_weaker (IsSlot p) (λ s. one_if (live_period p path c s) ≤ one_if (pinned p path (Course c) s)) (λ s i.
      cond-le (live_period p path c s) (pinned p path (Course c) s) (λ e.
      let w = live_at c h s i e in
      pinned_at (Course c) (cell c w.0 s) w.1 w.2 (eq-eqb c c refl))) (all_slots p) (each_slot p))

  module _ (b : Bound) (none : IsOpen p path b) where
    few_pinned : (c : ℕ) → c < length p.courses → pinned_periods p path (Course c) ≤ lectures p c
    few_pinned c h =
        ltb-false (lectures p c) (pinned_periods p path (Course c))
        (false_from_ne_true (nat_lt (lectures p c) (pinned_periods p path (Course c)))
        (λ e. none.many c h (ltb-true (lectures p c) (pinned_periods p path (Course c)) e)))

    enough_live : (c : ℕ) → c < length p.courses → lectures p c ≤ count_by (live_period p path c) (all_slots p)
    enough_live c h =
        let more = nat_lt (open_periods p path (c ∷ [])) (all_lectures p (c ∷ [])) in
        let k = ltb-false (open_periods p path (c ∷ [])) (all_lectures p (c ∷ []))
        (false_from_ne_true more
        (λ e. none.clique c h (omega arith, refl, ltb-true (open_periods p path (c ∷ [])) (all_lectures p (c ∷ [])) e))) in
        omega (arith, k, sum_by-cons (lectures p) c [], same)
      where
        or_nothing : (x : Bool) → (x || false) ≡ x
        or_nothing true = refl
        or_nothing false = refl

        same : open_periods p path (c ∷ []) ≡ count_by (live_period p path c) (all_slots p)
        same = sum_by-same (λ s. one_if (live_period p path c s || false)) (λ s. one_if (live_period p path c s)) (all_slots p)
            (λ s. ap one_if (or_nothing (live_period p path c s)))

    -- each course has all its lectures, and as many live periods
    pub lectures_placed : (c : ℕ) → c < length p.courses → (entries_of t c ≡ lectures p c)
        × (count_by (live_period p path c) (all_slots p) ≡ lectures p c)
    lectures_placed c h =
        let a = entries-le c in
        let k = live-le_periods c h in
        let d = periods-le_entries p t c in
        let e = enough_live c h in
        let f = live-le_pinned c h in
        let g = few_pinned c h in
        (omega arith, omega arith)

    no_lectures_off : (c : ℕ) → c < length p.courses → lectures_off p t c ≡ 0
    no_lectures_off c h =
        let a = lectures_placed c h in
        let k = live-le_periods c h in
        let x : entries_of t c ≡ lectures p c = a.0 in
        let y : count_by (live_period p path c) (all_slots p) ≡ lectures p c = a.1 in
        omega arith

    no_availability : availability_count p t ≡ 0
    no_availability = none_counted (λ e. unavailable p e.course e.day e.period) t (λ x m e.
        live_not_barred p path x (is_live_of p path x m)
        (or_left (unavailable p x.course x.day x.period) (list_any (λ f. not f.holds && matches p f.pattern x) path) e))

    no_conflicts : conflicts_count p t ≡ 0
    no_conflicts = pairs_none (collide p) t (λ x y mx my e.
        let a = and_parts ((x.day == y.day) && (x.period == y.period)) (conflict p x.course y.course) e in
        let k = same_live p path pins x y (range_of p path y my) (is_live_of p path x mx) (is_live_of p path y my) a.0
        (or_right ((y.room == x.room) || (y.course == x.course)) (conflict p y.course x.course) (conflict-turn p x.course y.course a.1)) in
        let c = and_parts (x.course == y.course) (x.room == y.room)
        (and_parts ((x.course == y.course) && (x.room == y.room)) (is_at (slot_of y) x) k).0 in
        let d = and_parts (not (x.course == y.course)) (one_teacher p x.course y.course || one_curriculum p x.course y.course) a.1 in
        both_ways (x.course == y.course) (not-true (x.course == y.course) d.0) c.0)

    no_occupancy : occupancy_count p t ≡ 0
    no_occupancy =
        sum_by-same (λ r. sum_by (λ s. entries_in t r s - 1) (all_slots p)) (λ r. 0) (all_rooms p) (λ r.
        sum_by-same (λ s. entries_in t r s - 1) (λ s. 0) (all_slots p) (λ s. omega (arith, once_in p path pins r s))
        ∙ sum_by-nothing (all_slots p))
        ∙ sum_by-nothing (all_rooms p)

    pub is_feasible : IsFeasible p t
    is_feasible = record {
      timetable = live_in_range p path;
      lectures = sum_by-same_below (lectures_off p t) (λ c. 0) (length p.courses) no_lectures_off ∙ sum_by-nothing (all_courses p);
      conflicts = no_conflicts;
      availability = no_availability;
      room_occupancy = no_occupancy;
    }

    -- ---- each fact holds

    holds_yes : (f : Fact) → Contains path f → f.holds ≡ true → list_any (matches p f.pattern) t ≡ true
    holds_yes f m e =
        let there = subst (λ b. Contains path (record { pattern = f.pattern; holds = b })) e m in
        let dead = false_from_ne_true (all_dead p path f.pattern) (λ d. none.empty f m e (there, d)) in
        let w = fails_with (InRange p) (λ x. not (matches p f.pattern x) || is_dead p path x) (all_cells p) (each_cell p) dead in
        let a = or_parts (not (matches p f.pattern w.0)) (is_dead p path w.0) w.2 in
        any_live p path (matches p f.pattern) w.0 w.1 (not_from_false (is_dead p path w.0) a.1) (not-false (matches p f.pattern w.0) a.0)

    holds_no : (f : Fact) → Contains path f → f.holds ≡ false → list_any (matches p f.pattern) t ≡ false
    holds_no f m e = false_from_ne_true (list_any (matches p f.pattern) t) (λ k.
        let w = member_from_any (matches p f.pattern) t k in
        live_not_barred p path w.0 (is_live_of p path w.0 w.1)
        (or_right (unavailable p w.0.course w.0.day w.0.period) (list_any (λ g. not g.holds && matches p g.pattern w.0) path)
        (any_member (λ g. not g.holds && matches p g.pattern w.0) path f m
        (and_from (not f.holds) (matches p f.pattern w.0) (not_from_false f.holds e) w.2))))

    pub fits : Fits p t path
    fits = All-from_recursion (Holds p t) path (each_member (Holds p t) path (λ f m. elim (cases_Bool f.holds) [
      | inl e ↦ holds_yes f m e ∙ sym e
      | inr e ↦ holds_no f m e ∙ sym e
    ]))
