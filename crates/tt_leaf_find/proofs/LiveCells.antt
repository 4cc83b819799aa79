-- If the path has each live cell's own pattern as a yes-fact, no two live cells clash.
use Rattle.std.proofs.Common.{◌≡◌, ℕ, ◌≤◌, Bool, true, false, not, ◌&&◌, ◌||◌, List, refl, sym, ap, ◌∙◌, subst, inl, inr, eqb-true, eq-eqb}
use Rattle.std.specs.Prelude.{Contains, ◌==◌, count_by}
use Rattle.std.specs.List.{list_any}
use Rattle.std.proofs.lemmas.Bool.{and_parts, and_from, or_left, or_right, cases_Bool, not_from_false, both_ways}
use Rattle.tt_list_laws.proofs.Below.{all_pass}
use Rattle.tt_list_laws.proofs.Counting.{one_passes}
use Rattle.tt_list_laws.proofs.Members.{any_member}
use Rattle.tt_instance.specs.Problem.{Problem}
use Rattle.tt_instance.specs.Cells.{slot_of, is_at, is_of, is_in, all_cells, InRange, same_cell}
use Rattle.tt_instance.specs.Courses.{in_curriculum, conflict}
use Rattle.tt_instance.specs.declared.cell.Slot.{Slot}
use Rattle.tt_instance.specs.declared.cell.Cell.{Cell}
use Rattle.tt_instance.proofs.Cells.{is_cell}
use Rattle.tt_instance.proofs.Fellows.{fellows}
use Rattle.tt_rules.specs.Hard.{entries_in}
use Rattle.tt_path.specs.Facts.{matches, has_fact}
use Rattle.tt_path.specs.Live.{clash, is_barred, excludes, is_dead, is_live}
use Rattle.tt_path.specs.declared.facts.Fact.{Fact}
use Rattle.tt_path.proofs.Same.{fact_there}
use Rattle.tt_path.proofs.Matching.{Matches-from}
use Rattle.tt_path.proofs.LiveCells.{live_cells, range_of, is_live_of, once_live, live_not_dead}
use Rattle.tt_leaf_find.specs.Pinned.{own_pattern, IsPinnedDown}

-- the yes-fact of a cell, on the path
pub own_fact : (path : List Fact) (x : Cell) → has_fact path (own_pattern x) true ≡ true → (f : Fact) × Contains path f
    × (f.holds ≡ true) × (f.pattern ≡ own_pattern x)
own_fact path x e = fact_there path (own_pattern x) true e

abbrev cell_of : ℕ → ℕ → ℕ → ℕ → Cell
cell_of c r d s = record { course = c; room = r; day = d; period = s }

-- only the cell itself matches its own pattern
own_matches : (p : Problem) (x y : Cell) → matches p (own_pattern x) y ≡ true → y ≡ x
own_matches p x y e =
    let m = Matches-from p (own_pattern x) y e in
    let c = eqb-true y.course x.course m.who in
    let r = eqb-true x.room y.room m.room in
    let d = eqb-true x.day y.day m.day in
    let s = eqb-true x.period y.period m.period in
    ap (λ i. cell_of i y.room y.day y.period) c ∙ ap (λ i. cell_of x.course i y.day y.period) (sym r)
    ∙ ap (λ i. cell_of x.course x.room i y.period) (sym d) ∙ ap (λ i. cell_of x.course x.room x.day i) (sym s)

module _ (p : Problem) (path : List Fact) (pinned : IsPinnedDown p path) where
  -- no live cell clashes with one whose own pattern is a yes-fact of the path
  pub no_clash_live : (x y : Cell) → InRange p y → is_live p path x ≡ true → is_live p path y ≡ true → clash p y x ≡ true → ⊥
  no_clash_live x y r lx ly k =
      let w = own_fact path y (pinned y r ly) in
      let f = w.0 in
      let lost : (z : Cell) → (not (matches p f.pattern z) || is_barred p path z || clash p z x) ≡ true = λ z.
      elim (cases_Bool (matches p f.pattern z)) [
        | inl m ↦
            let same = own_matches p y z (subst (λ g. matches p g z ≡ true) w.3 m) in
            or_right (not (matches p f.pattern z) || is_barred p path z) (clash p z x) (subst (λ c. clash p c x ≡ true) (sym same) k)
        | inr m ↦ or_left (not (matches p f.pattern z) || is_barred p path z) (clash p z x)
            (or_left (not (matches p f.pattern z)) (is_barred p path z) (not_from_false (matches p f.pattern z) m))
      ] in
      let out : excludes p path f.pattern x ≡ true = all_pass (λ z. not (matches p f.pattern z) || is_barred p path z || clash p z x)
      (all_cells p) lost in
      both_ways (is_dead p path x) (live_not_dead p path x lx)
      (or_right (is_barred p path x) (list_any (λ g. g.holds && excludes p path g.pattern x) path)
      (any_member (λ g. g.holds && excludes p path g.pattern x) path f w.1 (and_from f.holds (excludes p path f.pattern x) w.2 out)))

  -- two live cells in one period with the same room, the same course or conflicting courses are the same
  pub same_live : (x y : Cell) → InRange p y → is_live p path x ≡ true → is_live p path y ≡ true → is_at (slot_of y) x ≡ true
      → ((y.room == x.room) || (y.course == x.course) || conflict p y.course x.course) ≡ true → is_cell x y ≡ true
  same_live x y r lx ly at near = elim (cases_Bool (same_cell y x)) [
    | inl e ↦
        let a = and_parts ((y.course == x.course) && (y.room == x.room) && (y.day == x.day)) (y.period == x.period) e in
        let b = and_parts ((y.course == x.course) && (y.room == x.room)) (y.day == x.day) a.0 in
        let c = and_parts (y.course == x.course) (y.room == x.room) b.0 in
        and_from ((x.course == y.course) && (x.room == y.room)) (is_at (slot_of y) x)
        (and_from (x.course == y.course) (x.room == y.room) (eq-eqb x.course y.course (sym (eqb-true y.course x.course c.0)))
        (eq-eqb x.room y.room (sym (eqb-true y.room x.room c.1)))) at
    | inr d ↦
        let a = and_parts (x.day == y.day) (x.period == y.period) at in
        absurd (no_clash_live x y r lx ly
        (and_from (not (same_cell y x) && (y.day == x.day) && (y.period == x.period))
        ((y.room == x.room) || (y.course == x.course) || conflict p y.course x.course)
        (and_from (not (same_cell y x) && (y.day == x.day)) (y.period == x.period)
        (and_from (not (same_cell y x)) (y.day == x.day) (not_from_false (same_cell y x) d)
        (eq-eqb y.day x.day (sym (eqb-true x.day y.day a.0))))
        (eq-eqb y.period x.period (sym (eqb-true x.period y.period a.1)))) near))
  ]

  -- ---- counts of at most one

  once_where : (test : Cell → Bool) (s : Slot)
      → ((x y : Cell) → test x ≡ true → test y ≡ true → ((y.room == x.room) || (y.course == x.course) || conflict p y.course x.course)
      ≡ true) → count_by (λ e. test e && is_at s e) (live_cells p path) ≤ 1
  once_where test s near = one_passes is_cell (λ e. test e && is_at s e) (live_cells p path) (λ x h. once_live p path x) (λ x y hx hy ex ey.
      let a = and_parts (test x) (is_at s x) ex in
      let b = and_parts (test y) (is_at s y) ey in
      let c = and_parts (x.day == s.day) (x.period == s.period) a.1 in
      let d = and_parts (y.day == s.day) (y.period == s.period) b.1 in
      same_live x y (range_of p path y hy) (is_live_of p path x hx) (is_live_of p path y hy)
      (and_from (x.day == y.day) (x.period == y.period)
      (eq-eqb x.day y.day (eqb-true x.day s.day c.0 ∙ sym (eqb-true y.day s.day d.0)))
      (eq-eqb x.period y.period (eqb-true x.period s.period c.1 ∙ sym (eqb-true y.period s.period d.1))))
      (near x y a.0 b.0))

  pub once_of : (c : ℕ) (s : Slot) → count_by (λ e. is_of c e && is_at s e) (live_cells p path) ≤ 1
  once_of c s = once_where (is_of c) s (λ x y ex ey.
      or_left ((y.room == x.room) || (y.course == x.course)) (conflict p y.course x.course)
      (or_right (y.room == x.room) (y.course == x.course)
      (eq-eqb y.course x.course (eqb-true y.course c ey ∙ sym (eqb-true x.course c ex)))))

  pub once_in : (r : ℕ) (s : Slot) → entries_in (live_cells p path) r s ≤ 1
  once_in r s = once_where (is_in r) s (λ x y ex ey.
      or_left ((y.room == x.room) || (y.course == x.course)) (conflict p y.course x.course)
      (or_left (y.room == x.room) (y.course == x.course) (eq-eqb y.room x.room (eqb-true y.room r ey ∙ sym (eqb-true x.room r ex)))))

  pub once_of_curriculum : (q : ℕ) (s : Slot) → count_by (λ e. in_curriculum p q e.course && is_at s e) (live_cells p path) ≤ 1
  once_of_curriculum q s = once_where (λ e. in_curriculum p q e.course) s (λ x y ex ey.
      subst (λ b. b ≡ true) (regroup (y.room == x.room) (y.course == x.course) (conflict p y.course x.course))
      (or_right (y.room == x.room) ((y.course == x.course) || conflict p y.course x.course) (fellows p q y.course x.course ey ex)))
    where
      regroup : (a b c : Bool) → (a || (b || c)) ≡ ((a || b) || c)
      regroup true b c = refl
      regroup false b c = refl
