-- The periods of the week by their place in the list.
use Rattle.std.proofs.Common.{◌≡◌, ℕ, zero, suc, ◌+◌, ◌-◌, ◌*◌, ◌/◌, ◌%◌, ◌≤◌, ◌<◌, Bool, true, false, cond, List, [], ◌∷◌, ◌++◌, map, length, get_or, take, sym, ap, ◌∙◌, subst, arith, inl, inr, add-one, length-append, mul-le-mul_right}
use Rattle.std.specs.Prelude.{flat_map, sum_by, count_by}
use Rattle.std.specs.List.{list_all}
use Rattle.std.proofs.Math.Nat.{div-lt_iff_lt-mul}
use Rattle.std.proofs.lemmas.Bool.{cases_lt}
use Rattle.std.proofs.lemmas.Grind.{flat_map-append}
use Rattle.std.proofs.lemmas.List.{append-nil, get_or_append_left, get_or-append_right}
use Rattle.std.proofs.lemmas.List.FromFn.{get_or-map-range_with_len, length-map-range_with_len}
use Rattle.std.proofs.lemmas.List.Sums.{sum_by_more}
use Rattle.std.proofs.lemmas.Nat.{div-add-mod'}
use Rattle.tt_list_laws.specs.Words.{range_below}
use Rattle.std.proofs.lemmas.List.Folds.{list_all-map}
use Rattle.tt_list_laws.proofs.All.{list_all-of_flat_map, list_all-same}
use Rattle.tt_list_laws.proofs.Below.{range_below_more}
use Rattle.tt_instance.specs.Problem.{Problem}
use Rattle.tt_instance.specs.Cells.{slot, cell, all_slots, all_rooms, all_courses, all_cells}
use Rattle.tt_instance.specs.declared.cell.Slot.{Slot}
use Rattle.tt_instance.specs.declared.cell.Cell.{Cell}

-- the periods of the first days
abbrev first_days : ℕ → ℕ → List Slot
first_days periods days = flat_map (λ d. map (slot d) (range_below periods)) (range_below days)

one_day_more : (periods days : ℕ) → first_days periods (suc days) ≡ first_days periods days ++ map (slot days) (range_below periods)
one_day_more periods days =
    let day : ℕ → List Slot = λ d. map (slot d) (range_below periods) in
    ap (λ n. flat_map day (range_below n)) (sym (add-one days)) ∙ ap (flat_map day) (range_below_more days)
    ∙ flat_map-append day (range_below days) (days ∷ [])
    ∙ ap (λ l. flat_map day (range_below days) ++ l) (append-nil (day days))

length-first_days : (periods days : ℕ) → length (first_days periods days) ≡ days * periods
length-first_days periods zero = omega arith
length-first_days periods (suc days) =
    ap length (one_day_more periods days) ∙ length-append (first_days periods days) (map (slot days) (range_below periods))
    ∙ omega (arith, length-first_days periods days, length-map-range_with_len (slot days) 0 periods)

get_or-first_days : (periods days d s : ℕ) (x : Slot) → d < days → s < periods → get_or (first_days periods days) (d * periods + s) x
    ≡ slot d s
get_or-first_days periods zero d s x h k = absurd (omega arith)
get_or-first_days periods (suc days) d s x h k =
    let before = first_days periods days in
    let today = map (slot days) (range_below periods) in
    let n = length-first_days periods days in
    ap (λ l. get_or l (d * periods + s) x) (one_day_more periods days) ∙ elim (cases_lt d days) [
      | inl less ↦
          let below : d + 1 ≤ days = omega arith in
          let inside : d * periods + s < length before = omega (arith, n, mul-le-mul_right periods below) in
          get_or_append_left before today x (d * periods + s) inside ∙ get_or-first_days periods days d s x less k
      | inr more ↦
          let same : d ≡ days = omega arith in
          let past : days * periods ≤ d * periods + s = rw same (omega arith) in
          let z : 0 + s ≡ s = omega arith in
          let place : d * periods + s - days * periods ≡ s = rw same (omega arith) in
          get_or-append_right before today (days * periods) (d * periods + s) x n past ∙ ap (λ i. get_or today i x) place
          ∙ get_or-map-range_with_len (slot days) 0 periods s s x k z ∙ ap (λ i. slot i s) (sym same)
    ]

pub length-all_slots : (q : Problem) → length (all_slots q) ≡ q.days * q.periods
length-all_slots q = length-first_days q.periods q.days

-- the day of a place is below the number of days
day_below : (q : Problem) (i : ℕ) → 0 < q.periods → i < q.days * q.periods → i / q.periods < q.days
day_below q i some h = (div-lt_iff_lt-mul some).1 h

-- the day and the period of a place
get_or-all_slots : (q : Problem) (i : ℕ) (x : Slot) → 0 < q.periods → i < q.days * q.periods → get_or (all_slots q) i x ≡ slot
    (i / q.periods) (i % q.periods)
get_or-all_slots q i x some h =
    let period : i % q.periods < q.periods = omega arith in
    ap (λ k. get_or (all_slots q) k x) (sym (div-add-mod' i q.periods))
    ∙ get_or-first_days q.periods q.days (i / q.periods) (i % q.periods) x (day_below q i some h) period

-- the period of a place, with a number equal to the problem's periods per day
pub slot_of_place : (q : Problem) (periods i : ℕ) (x : Slot) → periods ≡ q.periods → 0 < periods → i < length (all_slots q)
    → slot (i / periods) (i % periods) ≡ get_or (all_slots q) i x
slot_of_place q periods i x e some h =
    ap (λ n. slot (i / n) (i % n)) e ∙ sym (get_or-all_slots q i x (rw (← e) some) (omega (arith, length-all_slots q)))

pub day_of_place : (q : Problem) (periods i : ℕ) → periods ≡ q.periods → 0 < periods → i < length (all_slots q) → i / periods < q.days
day_of_place q periods i e some h =
    let below = day_below q i (rw (← e) some) (omega (arith, length-all_slots q)) in
    omega (arith, ap (λ n. i / n) e)

-- a test of all cells, one room and one course at a time
pub cells_in_rooms : (q : Problem) (t : Cell → Bool) → list_all t (all_cells q) ≡ list_all
    (λ c. list_all (λ r. list_all (λ s. t (cell c r s)) (all_slots q)) (all_rooms q)) (all_courses q)
cells_in_rooms q t =
    let in_room : (c r : ℕ) → list_all t (map (cell c r) (all_slots q)) ≡ list_all (λ s. t (cell c r s)) (all_slots q) =
    λ c r. list_all-map t (cell c r) (all_slots q) in
    let of_course : (c : ℕ) → list_all t (flat_map (λ r. map (cell c r) (all_slots q)) (all_rooms q)) ≡ list_all
    (λ r. list_all (λ s. t (cell c r s)) (all_slots q)) (all_rooms q) = λ c.
    list_all-of_flat_map t (λ r. map (cell c r) (all_slots q)) (all_rooms q)
    ∙ list_all-same (λ r. list_all t (map (cell c r) (all_slots q))) (λ r. list_all (λ s. t (cell c r s)) (all_slots q)) (all_rooms q)
    (in_room c) in
    list_all-of_flat_map t (λ c. flat_map (λ r. map (cell c r) (all_slots q)) (all_rooms q)) (all_courses q)
    ∙ list_all-same (λ c. list_all t (flat_map (λ r. map (cell c r) (all_slots q)) (all_rooms q)))
    (λ c. list_all (λ r. list_all (λ s. t (cell c r s)) (all_slots q)) (all_rooms q)) (all_courses q) of_course

-- -- another period

-- a sum with the term of the next period
pub slots_sum_more : (p q : Problem) (f : Slot → ℕ) (i total next : ℕ) (s : Slot) → q ≡ p → i < length (all_slots q)
    → s ≡ get_or (all_slots q) i s → total ≡ sum_by f (take i (all_slots p)) → next ≡ total + f s
    → next ≡ sum_by f (take (i + 1) (all_slots p))
slots_sum_more p q f i total next s same h is e more =
    let there : i < length (all_slots p) = subst (λ z. i < length (all_slots z)) same h in
    let here : s ≡ get_or (all_slots p) i s = is ∙ ap (λ z. get_or (all_slots z) i s) same in
    omega (arith, e, more, sum_by_more f (all_slots p) i s there, ap f here)

-- a count with a next period that passes
pub slots_count_yes : (p q : Problem) (t : Slot → Bool) (i total next : ℕ) (s : Slot) → q ≡ p → i < length (all_slots q)
    → s ≡ get_or (all_slots q) i s → total ≡ count_by t (take i (all_slots p)) → true ≡ t s → next ≡ total + 1
    → next ≡ count_by t (take (i + 1) (all_slots p))
slots_count_yes p q t i total next s same h is e pass more =
    slots_sum_more p q (λ z. cond (t z) 1 0) i total next s same h is e (more ∙ ap (λ b. total + cond b 1 0) pass)

-- a count with a next period that fails
pub slots_count_no : (p q : Problem) (t : Slot → Bool) (i total next : ℕ) (s : Slot) → q ≡ p → i < length (all_slots q)
    → s ≡ get_or (all_slots q) i s → total ≡ count_by t (take i (all_slots p)) → false ≡ t s → next ≡ total
    → next ≡ count_by t (take (i + 1) (all_slots p))
slots_count_no p q t i total next s same h is e fail stays =
    slots_sum_more p q (λ z. cond (t z) 1 0) i total next s same h is e (omega (arith, stays, ap (λ b. total + cond b 1 0) fail))
