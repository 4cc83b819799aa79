-- The periods of the week: sums over them, and each entry in one of them.
use Rattle.std.proofs.Common.{◌≡◌, ℕ, ◌+◌, ◌-◌, ◌≤◌, Bool, true, ◌&&◌, List, refl, arith, eq-eqb}
use Rattle.std.specs.Prelude.{◌==◌, sum_by, count_by}
use Rattle.std.specs.List.{list_any}
use Rattle.std.proofs.lemmas.List.Elements.{recursion_from_All}
use Rattle.std.proofs.lemmas.Bool.{and_from}
use Rattle.tt_list_laws.proofs.Sums.{one_if, sum_by-plus, sum_by-same, each, each_weaker, spread_up, spread_down, once_at_least, once_at_most}
use Rattle.tt_instance.specs.Problem.{Problem}
use Rattle.tt_instance.specs.Cells.{InRange, all_slots, is_at}
use Rattle.tt_instance.specs.declared.cell.Cell.{Cell}
use Rattle.tt_instance.specs.declared.cell.Slot.{Slot}
use Rattle.tt_instance.proofs.Places.{any_slot, count_slots}
use Rattle.tt_table.specs.Table.{IsTimetable}
use Rattle.tt_list_laws.proofs.Tests.{first_and_others}

-- an entry in range is in one of them
own_slot : (q : Problem) (e : Cell) → InRange q e → list_any (λ s. is_at s e) (all_slots q) ≡ true
own_slot q e h =
    any_slot q (λ s. is_at s e) e.day e.period h.day h.period
    (and_from (e.day == e.day) (e.period == e.period) (eq-eqb e.day e.day refl) (eq-eqb e.period e.period refl))

-- each chosen entry is in exactly one period
pub slots_of_entries : (q : Problem) (t : List Cell) (chosen : Cell → Bool) → IsTimetable q t
    → sum_by (λ s. count_by (λ e. chosen e && is_at s e) t) (all_slots q) ≡ count_by chosen t
slots_of_entries q t chosen ok =
    let f : Cell → ℕ = λ e. one_if (chosen e) in
    let w : Slot → Cell → ℕ = λ s e. one_if (chosen e && is_at s e) in
    let up = spread_up f w t (all_slots q)
    (each_weaker (InRange q) (λ e. f e ≤ sum_by (λ s. w s e) (all_slots q))
    (λ e h. once_at_least (chosen e) (λ s. is_at s e) 1 (all_slots q) (own_slot q e h)) t (recursion_from_All (InRange q) t ok)) in
    let down = spread_down f w t (all_slots q)
    (each (λ e. sum_by (λ s. w s e) (all_slots q) ≤ f e)
    (λ e. once_at_most (chosen e) (λ s. is_at s e) 1 (all_slots q) (count_slots q e)) t) in
    omega (arith, up, down)

-- the chosen entries except the first of each period: the number of chosen entries minus the number of their periods
pub entries_but_first : (q : Problem) (t : List Cell) (chosen : Cell → Bool) → IsTimetable q t
    → sum_by (λ s. count_by (λ e. chosen e && is_at s e) t - 1) (all_slots q) ≡ count_by chosen t - count_by
    (λ s. list_any (λ e. chosen e && is_at s e) t) (all_slots q)
entries_but_first q t chosen ok =
    let here : Slot → Cell → Bool = λ s e. chosen e && is_at s e in
    let others : Slot → ℕ = λ s. count_by (here s) t - 1 in
    let first : Slot → ℕ = λ s. one_if (list_any (here s) t) in
    let both = sum_by-plus others first (all_slots q) in
    let all = sum_by-same (λ s. others s + first s) (λ s. count_by (here s) t) (all_slots q) (λ s. first_and_others (here s) t) in
    omega (arith, both, all, slots_of_entries q t chosen ok)
