-- If the path has each live cell's own pattern as a yes-fact and no leaf without claims is right, the live cells are the one timetable
-- that fits.
use Rattle.std.proofs.Common.{◌≡◌, ℕ, ◌≤◌, Bool, true, ◌&&◌, List, [], ◌∷◌, refl, sym, ap, ◌∙◌, subst, arith, inl, inr, eqb-true, eq-eqb}
use Rattle.std.specs.Prelude.{Contains, ◌==◌, count_by}
use Rattle.std.specs.List.{remove}
use Rattle.std.specs.List.Sorted.{IsPermutation}
use Rattle.std.proofs.lemmas.Bool.{and_parts, and_from, cases_lt}
use Rattle.std.proofs.lemmas.List.Sorted.{IsPermutation-refl, IsPermutation-sym, IsPermutation-trans, IsPermutation-cons, IsPermutation-remove, sum_by-IsPermutation}
use Rattle.tt_list_laws.proofs.Sums.{one_if, one_if_true, count_by-cons, count_if_any, any_if_count, sum_by-le, cond-le, each}
use Rattle.tt_list_laws.proofs.Members.{any_member, member_from_any}
use Rattle.tt_instance.specs.Problem.{Problem}
use Rattle.tt_instance.specs.Limits.{IsInstance}
use Rattle.tt_instance.specs.Cells.{slot_of, is_at, is_in, InRange}
use Rattle.tt_instance.specs.declared.cell.Cell.{Cell}
use Rattle.tt_instance.proofs.Cells.{is_cell, at_itself}
use Rattle.tt_rules.specs.Score.{IsFeasible, cost}
use Rattle.tt_rules.proofs.Feasible.{in_range, one_in}
use Rattle.tt_path.specs.Facts.{matches, Fits}
use Rattle.tt_path.specs.Live.{is_live}
use Rattle.tt_path.specs.declared.facts.Pattern.{Pattern}
use Rattle.tt_path.specs.declared.facts.Fact.{Fact}
use Rattle.tt_path.proofs.LiveCells.{live_cells, range_of, is_live_of, any_live, once_live}
use Rattle.tt_path.proofs.Matching.{Matches-from}
use Rattle.tt_leaf_rules.specs.Claims.{total_of}
use Rattle.tt_leaf.specs.declared.leaf.Bound.TheVariants.{AtLeast, Nothing}
use Rattle.tt_leaf_rules.proofs.Live.{matched, live_entry}
use Rattle.tt_leaf_rules.proofs.Soundness.{leaf_sound}
use Rattle.tt_leaf_find.specs.Best.{best_claims, best_leaf}
use Rattle.tt_leaf_find.specs.Pinned.{own_pattern, IsPinnedDown, IsOpen}
use Rattle.tt_leaf_find.proofs.LiveCells.{own_fact}
use Rattle.tt_leaf_find.proofs.Fitting.{is_feasible, fits}
use Rattle.tt_leaf_find.proofs.Closing.{cost-le_total}
use Rattle.tt_branch.specs.Alone.{LeavesOne}
use Rattle.tt_branch.specs.Proofs.{IsUnclosed}
use Rattle.tt_branch.proofs.Searching.{best_right}

-- -- lists in which each element occurs the same number of times

module _ {X : Type 0} (same : X → X → Bool) (is_same : (x y : X) → same x y ≡ true → x ≡ y) (itself : (x : X) → same x x ≡ true) where
  abbrev times : X → List X → ℕ
  times x xs = count_by (same x) xs

  -- a list that has an element is a permutation of the element and others
  with_others : (ys : List X) (x : X) → 1 ≤ times x ys → (others : List X) × IsPermutation ys (x ∷ others)
  with_others ys x h =
      let w = member_from_any (same x) ys (any_if_count (same x) ys h) in
      let e = is_same x w.0 w.2 in
      let c = subst (Contains ys) (sym e) w.1 in
      (remove ys c.0, IsPermutation-remove ys c.0 x c.1 (sym c.2))

  pub as_often : (xs ys : List X) → ((x : X) → times x xs ≡ times x ys) → IsPermutation xs ys
  as_often [] [] h = IsPermutation-refl []
  as_often [] (y ∷ ys) h = absurd (omega (arith, h y, count_by-cons (same y) y ys, one_if_true (same y y) (itself y)))
  as_often (x ∷ xs) ys h =
      let first : 1 ≤ times x ys = omega (arith, h x, count_by-cons (same x) x xs, one_if_true (same x x) (itself x)) in
      let w = with_others ys x first in
      let rest : (z : X) → times z xs ≡ times z w.0 = λ z.
      let k : times z (x ∷ w.0) ≡ times z ys = sum_by-IsPermutation (λ y. one_if (same z y)) ys (x ∷ w.0) w.1 in
      omega (arith, h z, k, count_by-cons (same z) x xs, count_by-cons (same z) x w.0) in
      IsPermutation-trans (x ∷ xs) (x ∷ w.0) ys (IsPermutation-cons x xs w.0 (as_often xs w.0 rest)) (IsPermutation-sym ys (x ∷ w.0) w.1)

-- ---- cells

cell_itself : (x : Cell) → is_cell x x ≡ true
cell_itself x =
    and_from ((x.course == x.course) && (x.room == x.room)) (is_at (slot_of x) x)
    (and_from (x.course == x.course) (x.room == x.room) (eq-eqb x.course x.course refl) (eq-eqb x.room x.room refl)) (at_itself x)

abbrev cell_of : ℕ → ℕ → ℕ → ℕ → Cell
cell_of c r d s = record { course = c; room = r; day = d; period = s }

cell_same : (x y : Cell) → is_cell x y ≡ true → x ≡ y
cell_same x y e =
    let a = and_parts ((x.course == y.course) && (x.room == y.room)) (is_at (slot_of y) x) e in
    let b = and_parts (x.course == y.course) (x.room == y.room) a.0 in
    let c = and_parts (x.day == y.day) (x.period == y.period) a.1 in
    ap (λ i. cell_of i x.room x.day x.period) (eqb-true x.course y.course b.0) ∙ ap (λ i. cell_of y.course i x.day x.period)
    (eqb-true x.room y.room b.1)
    ∙ ap (λ i. cell_of y.course y.room i x.period) (eqb-true x.day y.day c.0) ∙ ap (λ i. cell_of y.course y.room y.day i)
    (eqb-true x.period y.period c.1)

-- only the cell itself matches its own pattern
own_is : (p : Problem) (x y : Cell) → matches p (own_pattern x) y ≡ true → is_cell x y ≡ true
own_is p x y e =
    let m = Matches-from p (own_pattern x) y e in
    let turned : (a b : ℕ) → (b == a) ≡ true → (a == b) ≡ true = λ a b k. eq-eqb a b (sym (eqb-true b a k)) in
    and_from ((x.course == y.course) && (x.room == y.room)) (is_at (slot_of y) x)
    (and_from (x.course == y.course) (x.room == y.room) (turned x.course y.course m.who)
    (eq-eqb x.room y.room (eqb-true x.room y.room m.room)))
    (and_from (x.day == y.day) (x.period == y.period) (eq-eqb x.day y.day (eqb-true x.day y.day m.day))
    (eq-eqb x.period y.period (eqb-true x.period y.period m.period)))

-- ---- the timetables that fit

module _ (p : Problem) (path : List Fact) (pins : IsPinnedDown p path) where
  abbrev t : List Cell
  t = live_cells p path

  module _ (u : List Cell) (ok : IsFeasible p u) (fit : Fits p u path) where
    -- no entry occurs twice
    once : (x : Cell) → count_by (is_cell x) u ≤ 1
    once x = elim (cases_lt 0 (count_by (is_cell x) u)) [
      | inl h ↦
          let w = member_from_any (is_cell x) u (any_if_count (is_cell x) u h) in
          let r = subst (InRange p) (sym (cell_same x w.0 w.2)) (in_range p u ok w.0 w.1) in
          let fewer = sum_by-le (λ y. one_if (is_cell x y)) (λ y. one_if (is_in x.room y && is_at (slot_of x) y)) u
          (each (λ y. one_if (is_cell x y) ≤ one_if (is_in x.room y && is_at (slot_of x) y)) (λ y.
          cond-le (is_cell x y) (is_in x.room y && is_at (slot_of x) y) (λ e.
          subst (λ z. (is_in x.room z && is_at (slot_of x) z) ≡ true) (cell_same x y e)
          (and_from (x.room == x.room) (is_at (slot_of x) x) (eq-eqb x.room x.room refl) (at_itself x)))) u) in
          omega (arith, fewer, one_in p u ok x r)
      | inr h ↦ omega arith
    ]

    -- each entry is a live cell
    there : (x : Cell) → 1 ≤ count_by (is_cell x) u → 1 ≤ count_by (is_cell x) t
    there x h =
        let w = member_from_any (is_cell x) u (any_if_count (is_cell x) u h) in
        count_if_any (is_cell x) t (any_live p path (is_cell x) w.0 (in_range p u ok w.0 w.1) (live_entry p u ok path fit w.0 w.1) w.2)

    -- each live cell is an entry, since the path has its own pattern as a yes-fact
    back : (x : Cell) → 1 ≤ count_by (is_cell x) t → 1 ≤ count_by (is_cell x) u
    back x h =
        let w = member_from_any (is_cell x) t (any_if_count (is_cell x) t h) in
        let e = cell_same x w.0 w.2 in
        let r = subst (InRange p) (sym e) (range_of p path w.0 w.1) in
        let l = subst (λ y. is_live p path y ≡ true) (sym e) (is_live_of p path w.0 w.1) in
        let f = own_fact path x (pins x r l) in
        let m = matched p u ok path fit f.0 f.1 f.2 in
        count_if_any (is_cell x) u
        (any_member (is_cell x) u m.0 m.1 (own_is p x m.0 (subst (λ (g : Pattern). matches p g m.0 ≡ true) f.3 m.2)))

    same_times : (x : Cell) → count_by (is_cell x) u ≡ count_by (is_cell x) t
    same_times x = elim (cases_lt 0 (count_by (is_cell x) u)) [
      | inl h ↦ omega (arith, there x h, once x, once_live p path x)
      | inr h ↦ elim (cases_lt 0 (count_by (is_cell x) t)) [
        | inl k ↦ omega (arith, back x k)
        | inr k ↦ omega arith
      ]
    ]

    pub is_permuted : IsPermutation u t
    is_permuted = as_often is_cell cell_same cell_itself u t same_times

  module _ (ok : IsInstance p) (none : IsUnclosed p path) where
    -- no leaf with claims is right for the bound that no timetable exists
    open_for_nothing : IsOpen p path Nothing
    open_for_nothing = record { empty = none.empty; many = none.many; clique = none.clique; best = λ e. e; stacked = λ e. e }

    feasible : IsFeasible p t
    feasible = is_feasible p path pins Nothing open_for_nothing

    fitting : Fits p t path
    fitting = fits p path pins Nothing open_for_nothing

    worth : total_of p path (best_claims p path) ≡ cost p t
    worth =
        let total = total_of p path (best_claims p path) in
        let most : cost p t ≤ total = cost-le_total p path pins ok Nothing open_for_nothing in
        let least : total ≤ cost p t = leaf_sound p t feasible path fitting (AtLeast total) (best_leaf p path)
        (best_right p path total (omega arith)) in
        omega arith

    pub leaves_one_timetable : LeavesOne p path
    leaves_one_timetable = record { feasible = feasible; fits = fitting; only = is_permuted; worth = worth }

pub leaves_one : (p : Problem) (path : List Fact) → IsInstance p → IsPinnedDown p path → IsUnclosed p path → LeavesOne p path
leaves_one p path ok pins none = leaves_one_timetable p path pins ok none
