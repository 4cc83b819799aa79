-- Counts over the periods of the week, day by day.
use Rattle.std.proofs.Common.{◌≡◌, ℕ, ◌+◌, ◌*◌, ◌<◌, ◌≤◌, Bool, ◌&&◌, cond, map, sym, ap, ◌∙◌, arith}
use Rattle.std.specs.Prelude.{nat_lt, sum_by, count_by}
use Rattle.std.proofs.lemmas.List.Sums.{count_by-le-length}
use Rattle.tt_list_laws.specs.Words.{range_below}
use Rattle.tt_list_laws.proofs.Numbers.{sum_more}
use Rattle.tt_list_laws.proofs.Sums.{sum_by-same, sum_by-of_map, sum_by-of_flat_map}
use Rattle.tt_bits.specs.Inner.Bits.{has_bit, bits}
use Rattle.tt_bits.proofs.Counts.{count-set}
use Rattle.tt_instance.specs.Problem.{Problem}
use Rattle.tt_instance.specs.Cells.{slot, all_slots, all_days}
use Rattle.tt_instance.specs.declared.cell.Slot.{Slot}
use Rattle.tt_instance.proofs.Slots.{length-all_slots}

-- how many periods of a day pass
abbrev pub on_day : Problem → (Slot → Bool) → ℕ → ℕ
on_day p t d = count_by (λ s. t (slot d s)) (range_below p.periods)

module _ (p : Problem) (t : Slot → Bool) where
  pub week_by_days : sum_by (on_day p t) (all_days p) ≡ count_by t (all_slots p)
  week_by_days =
      let one : Slot → ℕ = λ s. cond (t s) 1 0 in
      sym (sum_by-of_flat_map one (λ d. map (slot d) (range_below p.periods)) (all_days p)
      ∙ sum_by-same (λ d. sum_by one (map (slot d) (range_below p.periods))) (on_day p t) (all_days p)
      (λ d. sum_by-of_map one (slot d) (range_below p.periods)))

  -- the count over the days before one, plus the count of that day by the word of its periods that pass
  pub week_next : (d w total more : ℕ) → p.periods ≤ 64 → ((s : ℕ) → s < 64 → has_bit w s ≡ (nat_lt s p.periods && t (slot d s)))
      → total ≡ sum_by (on_day p t) (range_below d) → more ≡ count_by (has_bit w) bits → total + more ≡ sum_by (on_day p t)
      (range_below (d + 1))
  week_next d w total more at_most set e is = omega (
    arith,
    e,
    is,
    count-set w p.periods (λ s. t (slot d s)) at_most set,
    sum_more (on_day p t) d,
  )

  pub week_whole : (d total : ℕ) → total ≡ sum_by (on_day p t) (range_below d) → d ≡ p.days → total ≡ count_by t (all_slots p)
  week_whole d total e is = e ∙ ap (λ n. sum_by (on_day p t) (range_below n)) is ∙ week_by_days

  pub week_within : (total : ℕ) → p.days * p.periods ≤ 512 → total ≡ count_by t (all_slots p) → total ≤ 512
  week_within total h e = omega (arith, e, count_by-le-length t (all_slots p), length-all_slots p)
