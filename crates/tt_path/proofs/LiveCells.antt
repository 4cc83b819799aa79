-- The live cells of a path, each of them once.
use Rattle.std.proofs.Common.{◌≡◌, ℕ, ◌≤◌, Bool, true, false, cond, ◌&&◌, List, ◌∙◌, arith}
use Rattle.std.specs.Prelude.{Contains, count_by, filter, All}
use Rattle.std.specs.List.{list_any}
use Rattle.std.proofs.lemmas.List.Elements.{All-filter, All-contains, All-from_recursion}
use Rattle.std.proofs.lemmas.Bool.{and_from, or_left, not-true, both_ways}
use Rattle.tt_list_laws.proofs.Sums.{sum_by-le, one_if, each}
use Rattle.tt_list_laws.proofs.Filters.{list_any-of_filter, sum_by-of_filter, member_passes}
use Rattle.tt_instance.specs.Problem.{Problem}
use Rattle.tt_instance.specs.Cells.{all_cells, InRange}
use Rattle.tt_instance.specs.declared.cell.Cell.{Cell}
use Rattle.tt_instance.proofs.Places.{any_cell}
use Rattle.tt_instance.proofs.Cells.{each_cell, is_cell, count_cells}
use Rattle.tt_path.specs.Live.{is_barred, excludes, is_dead, is_live}
use Rattle.tt_path.specs.declared.facts.Fact.{Fact}

-- a live cell is neither dead nor barred
pub live_not_dead : (p : Problem) (path : List Fact) (x : Cell) → is_live p path x ≡ true → is_dead p path x ≡ false
live_not_dead p path x e = not-true (is_dead p path x) e

pub live_not_barred : (p : Problem) (path : List Fact) (x : Cell) → is_live p path x ≡ true → is_barred p path x ≡ true → ⊥
live_not_barred p path x e b =
    both_ways (is_dead p path x) (live_not_dead p path x e)
    (or_left (is_barred p path x) (list_any (λ f. f.holds && excludes p path f.pattern x) path) b)

-- the live cells, in order
abbrev pub live_cells : Problem → List Fact → List Cell
live_cells p path = filter (is_live p path) (all_cells p)

module _ (p : Problem) (path : List Fact) where
  pub live_in_range : All (InRange p) (live_cells p path)
  live_in_range = All-filter (is_live p path) (InRange p) (all_cells p) (All-from_recursion (InRange p) (all_cells p) (each_cell p))

  pub range_of : (x : Cell) → Contains (live_cells p path) x → InRange p x
  range_of x h = All-contains (InRange p) (live_cells p path) x live_in_range h

  pub is_live_of : (x : Cell) → Contains (live_cells p path) x → is_live p path x ≡ true
  is_live_of x h = member_passes (is_live p path) (all_cells p) x h

  -- if a live cell passes a test, some live cell does
  pub any_live : (q : Cell → Bool) (x : Cell) → InRange p x → is_live p path x ≡ true → q x ≡ true → list_any q (live_cells p path) ≡ true
  any_live q x r l e =
      list_any-of_filter q (is_live p path) (all_cells p)
      ∙ any_cell p (λ y. is_live p path y && q y) x r (and_from (is_live p path x) (q x) l e)

  -- no cell occurs twice
  pub once_live : (x : Cell) → count_by (is_cell x) (live_cells p path) ≤ 1
  once_live x =
      let fewer = sum_by-le (λ y. cond (is_live p path y) (one_if (is_cell x y)) 0) (λ y. one_if (is_cell x y)) (all_cells p)
      (each (λ y. cond (is_live p path y) (one_if (is_cell x y)) 0 ≤ one_if (is_cell x y))
      (λ y. by_test (is_live p path y) (one_if (is_cell x y))) (all_cells p)) in
      omega (arith, fewer, count_cells p x, sum_by-of_filter (λ y. one_if (is_cell x y)) (is_live p path) (all_cells p))
    where
      by_test : (b : Bool) (n : ℕ) → cond b n 0 ≤ n
      by_test true n = omega arith
      by_test false n = omega arith
