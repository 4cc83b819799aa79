-- The periods and the cells of an instance: each is in range and occurs once.
use Rattle.std.proofs.Common.{◌≡◌, ℕ, ◌≤◌, ◌<◌, Bool, true, cond, ◌&&◌, map, length, refl, ap, ◌∙◌, arith, eqb-true, eq-eqb}
use Rattle.std.specs.Prelude.{◌==◌, sum_by, count_by, flat_map}
use Rattle.std.specs.List.{list_all, AllByRecursion}
use Rattle.std.proofs.lemmas.Bool.{and_parts, and_from}
use Rattle.tt_list_laws.specs.Words.{range_below}
use Rattle.tt_list_laws.proofs.Sums.{sum_by-le, sum_by-of_map, sum_by-of_flat_map, once_at_most, each, each_weaker}
use Rattle.tt_list_laws.proofs.Numbers.{count_below}
use Rattle.tt_list_laws.proofs.Tested.{each_flat, each_map}
use Rattle.tt_list_laws.proofs.Range.{each_below, all_below}
use Rattle.tt_instance.specs.Problem.{Problem}
use Rattle.tt_instance.specs.Cells.{slot, slot_of, cell, is_at, all_slots, all_days, all_rooms, all_courses, all_cells, InRange}
use Rattle.tt_instance.specs.declared.cell.Slot.{Slot}
use Rattle.tt_instance.specs.declared.cell.Cell.{Cell}
use Rattle.tt_instance.proofs.Places.{count_slots, cells_nested}

-- ---- the period of a cell

pub at_itself : (x : Cell) → is_at (slot_of x) x ≡ true
at_itself x = and_from (x.day == x.day) (x.period == x.period) (eq-eqb x.day x.day refl) (eq-eqb x.period x.period refl)

pub is_at-slot : (s : Slot) (x : Cell) → is_at s x ≡ true → slot_of x ≡ s
is_at-slot s x e =
    let a = and_parts (x.day == s.day) (x.period == s.period) e in
    ap (λ d. slot d x.period) (eqb-true x.day s.day a.0) ∙ ap (λ i. slot s.day i) (eqb-true x.period s.period a.1)

-- ---- in range

-- the period is one of the week
pub record IsSlot (p : Problem) (s : Slot) : Type 0 where
  pub day : s.day < p.days
  pub period : s.period < p.periods

pub each_slot : (p : Problem) → AllByRecursion (IsSlot p) (all_slots p)
each_slot p =
    each_flat (IsSlot p) (λ d. map (slot d) (range_below p.periods)) (all_days p)
    (each_below (λ d. AllByRecursion (IsSlot p) (map (slot d) (range_below p.periods))) p.days (λ d h.
    each_map (IsSlot p) (slot d) (range_below p.periods)
    (each_below (λ s. IsSlot p (slot d s)) p.periods (λ s k. record { day = h; period = k }))))

pub each_cell : (p : Problem) → AllByRecursion (InRange p) (all_cells p)
each_cell p =
    let in_room = λ (c r : ℕ). map (cell c r) (all_slots p) in
    let of_course = λ (c : ℕ). flat_map (in_room c) (all_rooms p) in
    each_flat (InRange p) of_course (all_courses p)
    (each_below (λ c. AllByRecursion (InRange p) (of_course c)) (length p.courses) (λ c h.
    each_flat (InRange p) (in_room c) (all_rooms p)
    (each_below (λ r. AllByRecursion (InRange p) (in_room c r)) (length p.rooms) (λ r k.
    each_map (InRange p) (cell c r) (all_slots p)
    (each_weaker (IsSlot p) (λ s. InRange p (cell c r s)) (λ s i. record { course = h; room = k; day = i.day; period = i.period })
    (all_slots p) (each_slot p))))))

-- a test of all cells passes if each cell in range passes it
pub all_cells_pass : (q : Problem) (t : Cell → Bool) → ((y : Cell) → InRange q y → t y ≡ true) → list_all t (all_cells q) ≡ true
all_cells_pass q t h =
    cells_nested q t
    ∙ all_below (λ c. list_all (λ r. list_all (λ d. list_all (λ s. t (cell c r (slot d s))) (range_below q.periods)) (all_days q))
    (all_rooms q)) (length q.courses) (λ c hc.
    all_below (λ r. list_all (λ d. list_all (λ s. t (cell c r (slot d s))) (range_below q.periods)) (all_days q)) (length q.rooms) (λ r hr.
    all_below (λ d. list_all (λ s. t (cell c r (slot d s))) (range_below q.periods)) q.days (λ d hd.
    all_below (λ s. t (cell c r (slot d s))) q.periods
    (λ s hs. h (cell c r (slot d s)) (record { course = hc; room = hr; day = hd; period = hs })))))

-- -- each once

-- both cells have the same course, room and period
abbrev pub is_cell : Cell → Cell → Bool
is_cell x y = ((x.course == y.course) && (x.room == y.room)) && is_at (slot_of y) x

pub count_cells : (p : Problem) (x : Cell) → count_by (is_cell x) (all_cells p) ≤ 1
count_cells p x =
    let f : Cell → ℕ = λ y. cond (is_cell x y) 1 0 in
    let in_room = λ (c r : ℕ). map (cell c r) (all_slots p) in
    let of_course = λ (c : ℕ). flat_map (in_room c) (all_rooms p) in
    let room : (c r : ℕ) → sum_by f (in_room c r) ≤ cond ((x.course == c) && (x.room == r)) 1 0 = λ c r.
    rw (sum_by-of_map f (cell c r) (all_slots p)) (once_at_most ((x.course == c) && (x.room == r)) (λ s. is_at s x) 1 (all_slots p)
    (count_slots p x)) in
    let course : (c : ℕ) → sum_by f (of_course c) ≤ cond (x.course == c) 1 0 = λ c.
    rw (sum_by-of_flat_map f (in_room c) (all_rooms p)) (omega (
      arith,
      sum_by-le (λ r. sum_by f (in_room c r)) (λ r. cond ((x.course == c) && (x.room == r)) 1 0) (all_rooms p)
          (each (λ r. sum_by f (in_room c r) ≤ cond ((x.course == c) && (x.room == r)) 1 0) (room c) (all_rooms p)),
      once_at_most (x.course == c) (λ r. x.room == r) 1 (all_rooms p) (count_below x.room (length p.rooms)),
    )) in
    omega (
      arith,
      sum_by-of_flat_map f of_course (all_courses p),
      sum_by-le (λ c. sum_by f (of_course c)) (λ c. cond (x.course == c) 1 0) (all_courses p)
          (each (λ c. sum_by f (of_course c) ≤ cond (x.course == c) 1 0) course (all_courses p)),
      count_below x.course (length p.courses),
    )
