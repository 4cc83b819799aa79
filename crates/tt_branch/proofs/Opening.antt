-- The result of opening a node.
use Rattle.std.proofs.Common.{◌≡◌, true, false, not, ◌&&◌, List, Option, Some, None, sym, subst, arith}
use Rattle.std.specs.List.{list_any}
use Rattle.std.proofs.Common.{inl, inr}
use Rattle.std.proofs.lemmas.Bool.{and_from, or_right, not_from_false, false_from_ne_true, cases_lt}
use Rattle.tt_list_laws.proofs.Members.{any_member}
use Rattle.tt_instance.specs.Problem.{Problem}
use Rattle.tt_instance.specs.Limits.{IsInstance}
use Rattle.tt_instance.specs.Courses.{unavailable}
use Rattle.tt_instance.specs.declared.cell.Cell.{Cell}
use Rattle.tt_rules.specs.Score.{IsFeasible, cost}
use Rattle.tt_path.specs.Facts.{matches, has_fact, Fits}
use Rattle.tt_path.specs.Live.{is_live}
use Rattle.tt_path.specs.declared.facts.Pattern.{Pattern}
use Rattle.tt_path.specs.declared.facts.Fact.{Fact}
use Rattle.tt_path.proofs.LiveCells.{live_cells, live_not_barred}
use Rattle.tt_path.proofs.Same.{fact_there}
use Rattle.tt_leaf.specs.declared.leaf.Bound.{Bound}
use Rattle.tt_leaf.specs.declared.leaf.Bound.TheVariants.{AtLeast}
use Rattle.tt_leaf_find.specs.Best.{best_leaf}
use Rattle.tt_leaf_find.specs.Found.{Closes}
use Rattle.tt_leaf_find.specs.Pinned.{IsPinnedDown, IsOpen}
use Rattle.tt_leaf_find.proofs.Fitting.{is_feasible, fits}
use Rattle.tt_leaf_find.proofs.Closing.{cost-le_total}
use Rattle.tt_leaf_find.proofs.Answering.{best_answer}
use Rattle.tt_branch.specs.Outcomes.{final_bound}
use Rattle.tt_branch_split.specs.Choice.{IsNewSplit}
use Rattle.tt_branch.specs.Proofs.{IsSplitOn}
use Rattle.tt_branch.proofs.Searching.{IsBetter, best_right}

-- a no-fact of a pattern bars each cell that it matches
not_denied : (p : Problem) (path : List Fact) (g : Pattern) (x : Cell) → matches p g x ≡ true → is_live p path x ≡ true
    → has_fact path g false ≡ true → ⊥
not_denied p path g x matched l e =
    let w = fact_there path g false e in
    let m = subst (λ k. matches p k x ≡ true) (sym w.3) matched in
    live_not_barred p path x l
    (or_right (unavailable p x.course x.day x.period) (list_any (λ f. not f.holds && matches p f.pattern x) path)
    (any_member (λ f. not f.holds && matches p f.pattern x) path w.0 w.1
    (and_from (not w.0.holds) (matches p w.0.pattern x) (not_from_false w.0.holds w.2) m)))

-- a new pattern that aims at a free cell splits a node that isn't closed
pub splits_on : (p : Problem) (path : List Fact) (g : Pattern) (b : Bound) → IsNewSplit p path g → IsOpen p path b → IsSplitOn p path g
splits_on p path g b s none = record {
  numbers = s.numbers;
  not_yes = s.not_yes;
  not_no = false_from_ne_true (has_fact path g false) (not_denied p path g s.aims.cell s.aims.matched s.aims.is_free.live);
  unclosed = record { empty = none.empty; many = none.many; clique = none.clique };
  aims = s.aims;
}

-- if no cell is free, the live cells are a timetable that breaks no hard rule and is better than the best, and the best claims close
-- the node
-- for its cost
pub record IsSolved (p : Problem) (path : List Fact) (best : Option (List Cell)) (t : List Cell) : Type 0 where
  pub feasible : IsFeasible p t
  pub fits : Fits p t path
  pub better : IsBetter p best t
  pub closes : Closes p path (AtLeast (cost p t)) (best_leaf p path)

better : (p : Problem) (path : List Fact) (best : Option (List Cell)) → IsInstance p → IsPinnedDown p path
    → IsOpen p path (final_bound p best) → IsBetter p best (live_cells p path)
better p path None ok pins none = tt
better p path (Some u) ok pins none = elim (cases_lt (cost p (live_cells p path)) (cost p u)) [
  | inl h ↦ omega arith
  | inr h ↦ absurd (none.best (best_right p path (cost p u) (omega (arith, cost-le_total p path pins ok (AtLeast (cost p u)) none))))
]

pub solved : (p : Problem) (path : List Fact) (best : Option (List Cell)) → IsInstance p → IsPinnedDown p path
    → IsOpen p path (final_bound p best) → IsSolved p path best (live_cells p path)
solved p path best ok pins none = record {
  feasible = is_feasible p path pins (final_bound p best) none;
  fits = fits p path pins (final_bound p best) none;
  better = better p path best ok pins none;
  closes = record {
    right = best_right p path (cost p (live_cells p path)) (cost-le_total p path pins ok (final_bound p best) none);
    answer = best_answer p path ok;
  };
}
