-- The periods of the week by their numbers, day by day.
use Rattle.std.proofs.Common.{◌≡◌, ℕ, zero, suc, ◌+◌, ◌*◌, ◌<◌, Bool, List, sym, ap, ◌∙◌, arith}
use Rattle.std.specs.Prelude.{◌==◌, sum_by, count_by}
use Rattle.std.specs.List.{list_any}
use Rattle.tt_list_laws.specs.Words.{range_below}
use Rattle.tt_list_laws.proofs.Numbers.{sum_more}
use Rattle.tt_list_laws.proofs.Sums.{one_if, sum_by-same}
use Rattle.tt_instance.specs.Problem.{Problem}
use Rattle.tt_instance.specs.Cells.{InRange, slot, all_days, all_slots, is_at}
use Rattle.tt_instance.specs.declared.cell.Cell.{Cell}
use Rattle.tt_instance.specs.declared.cell.Slot.{Slot}
use Rattle.tt_table.specs.Table.{IsTimetable}
use Rattle.tt_table.proofs.Numbering.{same_number}
use Rattle.tt_list_laws.proofs.Tests.{list_any-same_at, sum_by-same_below, sum_further}
use Rattle.tt_instance.proofs.Places.{slots_summed}

-- a sum over the numbers of the week is a sum over days and periods
sum_by_days : (f : ℕ → ℕ) (periods days : ℕ) → sum_by f (range_below (days * periods)) ≡ sum_by
    (λ d. sum_by (λ s. f (d * periods + s)) (range_below periods)) (range_below days)
sum_by_days f periods zero = let e : 0 * periods ≡ 0 = omega arith in rw e
sum_by_days f periods (suc days) =
    let on_day : ℕ → ℕ = λ d. sum_by (λ s. f (d * periods + s)) (range_below periods) in
    let e : suc days * periods ≡ days * periods + periods = omega arith in
    let g : suc days ≡ days + 1 = omega arith in
    let whole : sum_by f (range_below (suc days * periods)) ≡ sum_by f (range_below (days * periods)) + on_day days =
    ap (λ i. sum_by f (range_below i)) e ∙ sum_further f (days * periods) periods in
    let rest : sum_by on_day (range_below (suc days)) ≡ sum_by on_day (range_below days) + on_day days =
    ap (λ i. sum_by on_day (range_below i)) g ∙ sum_more on_day days in
    omega (arith, whole, rest, sum_by_days f periods days)

-- a sum over the periods of the week is a sum over their numbers
pub week_summed : (q : Problem) (f : ℕ → ℕ) (g : Slot → ℕ) → ((d s : ℕ) → s < q.periods → f (d * q.periods + s) ≡ g (slot d s))
    → sum_by f (range_below (q.days * q.periods)) ≡ sum_by g (all_slots q)
week_summed q f g h =
    sum_by_days f q.periods q.days
    ∙ sum_by-same (λ d. sum_by (λ s. f (d * q.periods + s)) (range_below q.periods))
    (λ d. sum_by (λ s. g (slot d s)) (range_below q.periods)) (all_days q)
    (λ d. sum_by-same_below (λ s. f (d * q.periods + s)) (λ s. g (slot d s)) q.periods (h d))
    ∙ sym (slots_summed q g)

-- some entry has the number of a period exactly if some entry is in that period
any_at_number : (q : Problem) (t : List Cell) → IsTimetable q t → (d s : ℕ) → s < q.periods
    → list_any (λ e. e.day * q.periods + e.period == d * q.periods + s) t ≡ list_any (is_at (slot d s)) t
any_at_number q t ok d s h =
    list_any-same_at (InRange q) (λ e. e.day * q.periods + e.period == d * q.periods + s) (is_at (slot d s)) t ok
    (λ e k. same_number e.day e.period d s q.periods k.period h)

-- the count of numbers that entries have is the count of periods that have an entry
pub periods_numbered : (q : Problem) (t : List Cell) (week : ℕ) → IsTimetable q t → week ≡ q.days * q.periods
    → count_by (λ k. list_any (λ e. e.day * q.periods + e.period == k) t) (range_below week) ≡ count_by (λ s. list_any (is_at s) t)
    (all_slots q)
periods_numbered q t week ok all =
    let at : ℕ → Cell → Bool = λ k e. e.day * q.periods + e.period == k in
    ap (λ n. count_by (λ k. list_any (at k) t) (range_below n)) all
    ∙ week_summed q (λ k. one_if (list_any (at k) t)) (λ s. one_if (list_any (is_at s) t))
    (λ d s h. ap one_if (any_at_number q t ok d s h))
