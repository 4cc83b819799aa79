-- The live cells of a path, one number at a time, and their number.
use Rattle.std.proofs.Common.{◌≡◌, ℕ, ◌≤◌, List, map, length, refl, sym, ◌∙◌, arith}
use Rattle.std.specs.Prelude.{sum_by, flat_map, Contains}
use Rattle.std.proofs.Common.{true, eq-eqb}
use Rattle.std.proofs.lemmas.Simd.{map-map}
use Rattle.tt_list_laws.specs.Words.{range_below}
use Rattle.tt_list_laws.proofs.Sums.{spread_up, once_at_least, one_if}
use Rattle.tt_list_laws.proofs.Members.{each_member}
use Rattle.tt_list_laws.proofs.Numbers.{any_below}
use Rattle.tt_list_laws.proofs.Tests.{sum_by-same_below}
use Rattle.tt_list_laws.proofs.Growing.{map-of_flat_map}
use Rattle.tt_list_laws.proofs.Counting.{sum_by-ones}
use Rattle.tt_instance.specs.Problem.{Problem}
use Rattle.tt_instance.specs.Limits.{IsInstance}
use Rattle.tt_instance.specs.Cells.{slot, cell, is_of, all_days, all_rooms, all_courses, all_slots, all_cells, InRange}
use Rattle.tt_instance.specs.Courses.{lectures}
use Rattle.tt_instance.specs.declared.cell.Cell.{Cell}
use Rattle.tt_instance.proofs.CourseLimits.{few_lectures}
use Rattle.tt_rules.specs.Hard.{entries_of}
use Rattle.tt_path.specs.declared.facts.Fact.{Fact}
use Rattle.tt_path.proofs.LiveCells.{live_cells, range_of}
use Rattle.tt_leaf.specs.declared.leaf.Bound.{Bound}
use Rattle.tt_leaf_find.specs.Pinned.{IsPinnedDown, IsOpen}
use Rattle.tt_leaf_find.proofs.Fitting.{lectures_placed}
use Rattle.tt_branch.specs.Inner.Steps.{cells_in, cells_of}

in_room : (p : Problem) (c r : ℕ) → map (cell c r) (all_slots p) ≡ cells_in p c r
in_room p c r =
    map-of_flat_map (cell c r) (λ d. map (slot d) (range_below p.periods)) (all_days p)
    ∙ λ i. flat_map (λ d. map-map (cell c r) (slot d) (range_below p.periods) i) (all_days p)

-- the cells in order, one number at a time
pub cells_nested : (p : Problem) → flat_map (cells_of p) (all_courses p) ≡ all_cells p
cells_nested p = λ i. flat_map (λ c. flat_map (λ r. sym (in_room p c r) i) (all_rooms p)) (all_courses p)

-- -- the number of live cells

-- a timetable has at most as many entries as its courses have together
pub entries_up : (p : Problem) (t : List Cell) → ((x : Cell) → Contains t x → InRange p x) → length t ≤ sum_by (entries_of t)
    (all_courses p)
entries_up p t inside =
    omega (
      arith,
      sum_by-ones t,
      spread_up (λ e. 1) (λ c e. one_if (is_of c e)) t (all_courses p)
          (each_member (λ e. 1 ≤ sum_by (λ c. one_if (is_of c e)) (all_courses p)) t (λ e m.
          once_at_least true (λ c. is_of c e) 1 (all_courses p)
          (any_below (λ c. is_of c e) (length p.courses) e.course (inside e m).course (eq-eqb e.course e.course refl)))),
    )

-- if no cell is free and no leaf is right, there are at most 4,096 live cells, as many as lectures
pub few_live : (p : Problem) (path : List Fact) (b : Bound) → IsInstance p → IsPinnedDown p path → IsOpen p path b
    → length (live_cells p path) ≤ 4096
few_live p path b ok pins none =
    let t = live_cells p path in
    omega (
      arith,
      entries_up p t (range_of p path),
      sum_by-same_below (entries_of t) (lectures p) (length p.courses) (λ c h. (lectures_placed p path pins b none c h).0),
      few_lectures p ok,
    )
