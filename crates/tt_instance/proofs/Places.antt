-- The periods and the cells of an instance: each occurs exactly once; tests and sums of all of them.
use Rattle.std.proofs.Common.{◌≡◌, ℕ, ◌≤◌, ◌<◌, Bool, true, cond, map, length, arith, not, sym, ap, ◌∙◌}
use Rattle.std.specs.Prelude.{sum_by, count_by, flat_map, ◌==◌}
use Rattle.std.specs.List.{list_any, list_all, AllByRecursion}
use Rattle.std.proofs.lemmas.List.Folds.{list_all-map}
use Rattle.std.proofs.lemmas.Bool.{not_from_false, true_from_ne_false, both_ways, not-true}
use Rattle.tt_list_laws.specs.Words.{range_below}
use Rattle.tt_instance.specs.Problem.{Problem}
use Rattle.tt_instance.specs.Cells.{slot, cell, all_slots, all_days, all_rooms, all_courses, InRange, is_at, all_cells}
use Rattle.tt_instance.specs.declared.cell.Slot.{Slot}
use Rattle.tt_instance.specs.declared.cell.Cell.{Cell}
use Rattle.tt_list_laws.proofs.Sums.{sum_by-le, sum_by-of_map, sum_by-of_flat_map, list_any-of_map, list_any-of_flat_map, once_at_most, each, list_any_with, each_from_list_all, sum_by-same}
use Rattle.tt_list_laws.proofs.Numbers.{any_below, count_below}
use Rattle.tt_list_laws.proofs.Members.{each_below_at, each_of_flat_map, each_of_map}
use Rattle.tt_list_laws.proofs.All.{list_all-of_flat_map, list_all-same}

-- ---- slots

pub any_slot : (q : Problem) (p : Slot → Bool) (d s : ℕ) → d < q.days → s < q.periods → p (slot d s) ≡ true
    → list_any p (all_slots q) ≡ true
any_slot q p d s h k e =
    let day : list_any p (map (slot d) (range_below q.periods)) ≡ true = rw (list_any-of_map p (slot d) (range_below q.periods))
    (any_below (λ i. p (slot d i)) q.periods s k e) in
    rw (list_any-of_flat_map p (λ i. map (slot i) (range_below q.periods)) (all_days q))
    (any_below (λ i. list_any p (map (slot i) (range_below q.periods))) q.days d h day)

pub count_slots : (q : Problem) (e : Cell) → count_by (λ s. is_at s e) (all_slots q) ≤ 1
count_slots q e =
    let f : Slot → ℕ = λ s. cond (is_at s e) 1 0 in
    let day = λ (d : ℕ). map (slot d) (range_below q.periods) in
    let whole = sum_by-of_flat_map f day (all_days q) in
    let one : (d : ℕ) → sum_by f (day d) ≤ cond (e.day == d) 1 0 = λ d.
    rw (sum_by-of_map f (slot d) (range_below q.periods)) (once_at_most (e.day == d) (λ s. e.period == s) 1 (range_below q.periods)
    (count_below e.period q.periods)) in
    omega (
      arith,
      whole,
      sum_by-le (λ d. sum_by f (day d)) (λ d. cond (e.day == d) 1 0) (all_days q)
          (each (λ d. sum_by f (day d) ≤ cond (e.day == d) 1 0) one (all_days q)),
      count_below e.day q.days,
    )

-- ---- cells

pub any_cell : (q : Problem) (p : Cell → Bool) (x : Cell) → InRange q x → p x ≡ true → list_any p (all_cells q) ≡ true
any_cell q p x h e =
    let in_room = λ (c r : ℕ). map (cell c r) (all_slots q) in
    let of_course = λ (c : ℕ). flat_map (in_room c) (all_rooms q) in
    let here : list_any p (in_room x.course x.room) ≡ true = rw (list_any-of_map p (cell x.course x.room) (all_slots q))
    (any_slot q (λ s. p (cell x.course x.room s)) x.day x.period h.day h.period e) in
    let there : list_any p (of_course x.course) ≡ true = rw (list_any-of_flat_map p (in_room x.course) (all_rooms q))
    (any_below (λ r. list_any p (in_room x.course r)) (length q.rooms) x.room h.room here) in
    rw (list_any-of_flat_map p of_course (all_courses q))
    (any_below (λ c. list_any p (of_course c)) (length q.courses) x.course h.course there)

pub each_slot_at : (q : Problem) (P : Slot → Type 0) (d s : ℕ) → AllByRecursion P (all_slots q) → d < q.days → s < q.periods → P (slot d s)
each_slot_at q P d s a h k =
    let day = λ (i : ℕ). map (slot i) (range_below q.periods) in
    let today = each_below_at (λ i. AllByRecursion P (day i)) q.days d (each_of_flat_map P day (all_days q) a) h in
    each_below_at (λ i. P (slot d i)) q.periods s (each_of_map P (slot d) (range_below q.periods) today) k

-- ---- cells

pub each_cell_at : (q : Problem) (test : Cell → Bool) (x : Cell) → list_all test (all_cells q) ≡ true → InRange q x → test x ≡ true
each_cell_at q test x a h = true_from_ne_false (test x) (λ e.
    let w = list_any_with (λ y. test y ≡ true) (λ y. not (test y)) (all_cells q) (each_from_list_all test (all_cells q) a)
    (any_cell q (λ y. not (test y)) x h (not_from_false (test x) e)) in
    both_ways (test w.0) (not-true (test w.0) w.2) w.1)

-- ---- one index at a time

pub slots_nested : (q : Problem) (t : Slot → Bool) → list_all t (all_slots q) ≡ list_all
    (λ d. list_all (λ s. t (slot d s)) (range_below q.periods)) (all_days q)
slots_nested q t =
    list_all-of_flat_map t (λ d. map (slot d) (range_below q.periods)) (all_days q)
    ∙ list_all-same (λ d. list_all t (map (slot d) (range_below q.periods))) (λ d. list_all (λ s. t (slot d s)) (range_below q.periods))
    (all_days q) (λ d. list_all-map t (slot d) (range_below q.periods))

pub cells_nested : (q : Problem) (t : Cell → Bool) → list_all t (all_cells q) ≡ list_all
    (λ c. list_all (λ r. list_all (λ d. list_all (λ s. t (cell c r (slot d s))) (range_below q.periods)) (all_days q)) (all_rooms q))
    (all_courses q)
cells_nested q t =
    let nested : ℕ → ℕ → Bool = λ c r. list_all (λ d. list_all (λ s. t (cell c r (slot d s))) (range_below q.periods)) (all_days q) in
    let in_room : (c r : ℕ) → list_all t (map (cell c r) (all_slots q)) ≡ nested c r = λ c r. list_all-map t (cell c r) (all_slots q)
    ∙ slots_nested q (λ s. t (cell c r s)) in
    let of_course : (c : ℕ) → list_all t (flat_map (λ r. map (cell c r) (all_slots q)) (all_rooms q)) ≡ list_all (nested c)
    (all_rooms q) = λ c.
    list_all-of_flat_map t (λ r. map (cell c r) (all_slots q)) (all_rooms q)
    ∙ list_all-same (λ r. list_all t (map (cell c r) (all_slots q))) (nested c) (all_rooms q) (in_room c) in
    list_all-of_flat_map t (λ c. flat_map (λ r. map (cell c r) (all_slots q)) (all_rooms q)) (all_courses q)
    ∙ list_all-same (λ c. list_all t (flat_map (λ r. map (cell c r) (all_slots q)) (all_rooms q)))
    (λ c. list_all (nested c) (all_rooms q)) (all_courses q) of_course

pub slots_summed : (q : Problem) (f : Slot → ℕ) → sum_by f (all_slots q) ≡ sum_by
    (λ d. sum_by (λ s. f (slot d s)) (range_below q.periods)) (all_days q)
slots_summed q f =
    sum_by-of_flat_map f (λ d. map (slot d) (range_below q.periods)) (all_days q)
    ∙ sum_by-same (λ d. sum_by f (map (slot d) (range_below q.periods))) (λ d. sum_by (λ s. f (slot d s)) (range_below q.periods))
    (all_days q) (λ d. sum_by-of_map f (slot d) (range_below q.periods))

-- a sum over all periods, built over numbers equal to the problem's
pub slots_summed_at : (q : Problem) (f : Slot → ℕ) (days periods total : ℕ) → days ≡ q.days → periods ≡ q.periods
    → total ≡ sum_by (λ d. sum_by (λ s. f (slot d s)) (range_below periods)) (range_below days) → total ≡ sum_by f (all_slots q)
slots_summed_at q f days periods total d s e =
    e ∙ ap (λ n. sum_by (λ i. sum_by (λ k. f (slot i k)) (range_below n)) (range_below days)) s
    ∙ ap (λ n. sum_by (λ i. sum_by (λ k. f (slot i k)) (range_below q.periods)) (range_below n)) d ∙ sym (slots_summed q f)
