-- The least that a plan pays is the least that a relaxed timetable pays.
use Rattle.std.proofs.Common.{◌≡◌, ℕ, ◌<◌, true, length, Option, Some, None, subst, ◌∙◌}
use Rattle.std.specs.Prelude.{ℤ, pos, ◌+ℤ◌, ◌≤ℤ◌}
use Rattle.tt_instance.specs.Problem.{Problem}
use Rattle.tt_groups.specs.Plans.{week_of}
use Rattle.tt_groups.specs.Prices.{PricedGroup, concerns}
use Rattle.tt_groups.proofs.Placed.{placed, placed_relaxed, placed_pays}
use Rattle.tt_groups.proofs.Planned.{plan_of, plan_pays}
use Rattle.tt_prices_check.specs.Week.{base_paid, IsLeastPlan, IsLeastTimetable}

module _ (p : Problem) (scale : ℕ) (g : PricedGroup) (there : (c : ℕ) → concerns p g c ≡ true → c < length p.courses) where
  pub least_timetable : (least : Option ℤ) → IsLeastPlan p scale g least → IsLeastTimetable p scale g least
  least_timetable None none = λ t relaxed. none (week_of t) (plan_of p g t relaxed)
  least_timetable (Some v) found =
      let week = found.1.0 in
      let plan = found.1.1 in (
        λ t relaxed. subst (λ z. (v +ℤ pos (base_paid p scale g)) ≤ℤ z) (plan_pays p g t there relaxed scale)
            (found.0 (week_of t) (plan_of p g t relaxed)),
        (placed p g week plan there, placed_relaxed p g week plan there, placed_pays p g week plan there scale ∙ found.1.2),
      )
