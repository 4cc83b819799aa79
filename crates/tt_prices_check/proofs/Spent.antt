-- What the first days of a week have spent, raised by the same for each day, so that no day pays less than 0.
use Rattle.std.proofs.Common.{◌≡◌, ℕ, ◌+◌, ◌-◌, ◌*◌, ◌<◌, [], ◌∷◌, ap, ◌∙◌, arith}
use Rattle.std.specs.Prelude.{ℤ, pos, ◌+ℤ◌, min, sum_by}
use Rattle.std.proofs.lemmas.Int.{ints}
use Rattle.tt_list_laws.specs.Words.{range_below}
use Rattle.tt_list_laws.proofs.Below.{range_below_more}
use Rattle.tt_list_laws.proofs.Range.{below_member}
use Rattle.tt_list_laws.proofs.Sums.{sum_by-plus, sum_by-same, sum_by-nothing}
use Rattle.tt_list_laws.proofs.Tests.{sum_by-same_below}
use Rattle.tt_instance.specs.Problem.{Problem}
use Rattle.tt_groups.specs.Plans.{Week, lectures_on, day_cost, used, further, slack, capped, spent}
use Rattle.tt_groups.proofs.Program.{spent-more}
use Rattle.tt_groups.specs.Days.{unpriced, further_on, day_prices, day_paid, plan_paid}
use Rattle.tt_groups.specs.Prices.{PricedGroup}
use Rattle.tt_groups.specs.Signed.{signed_sum}
use Rattle.tt_groups.proofs.Planned.{claimed, points_spent}
use Rattle.tt_groups.proofs.Signed.{signed_sum-append, signed_sum-same_member}
use Rattle.tt_prices_check.specs.Week.{base_paid}
use Rattle.tt_prices_check.specs.declared.moves.TheConstants.{MAX_PAID}

-- the sum over one more number
signed_sum-more : (f : ℕ → ℤ) (d : ℕ) → signed_sum f (range_below (d + 1)) ≡ signed_sum f (range_below d) +ℤ f d
signed_sum-more f d =
    let last : f d +ℤ pos 0 ≡ f d = omega (arith, ints) in
    ap (signed_sum f) (range_below_more d) ∙ signed_sum-append f (range_below d) (d ∷ [])
    ∙ ap (λ z. signed_sum f (range_below d) +ℤ z) last

module _ (p : Problem) (scale : ℕ) (g : PricedGroup) where
  -- the first d days have spent their points, `scale` times, and their prices, and each day is raised by MAX_PAID
  abbrev pub spent_raised : Week → ℕ → ℤ
  spent_raised week d =
      pos (scale * spent p (claimed g) week d + 1099511627776 * d) +ℤ signed_sum (λ i. day_prices p g i (week i)) (range_below d)

  -- before the first day nothing is spent
  pub spent_first : (week : Week) → spent_raised week 0 ≡ pos 0
  spent_first week =
      let none = sum_by-same (λ c. 5 * (further p week 0 c - slack p c)) (λ c. 0) g.courses (λ c. omega arith) in
      let zero : spent p (claimed g) week 0 ≡ 0 = omega (arith, none, sum_by-nothing g.courses) in
      let scaled = ap (λ n. scale * n) zero in
      omega (arith, ints, scaled)

  -- what the step of the day d pays
  abbrev pub pay_on : Week → ℕ → ℕ
  pay_on week d = sum_by (λ c. 5 * ((capped p week d c + min (lectures_on p (week d) c - 1) (slack p c)) - slack p c)) g.courses

  -- another day spends what the day pays and what its step pays
  pub spent_more : (week : Week) (d : ℕ) → spent_raised week (d + 1)
      ≡ (spent_raised week d +ℤ (day_paid p scale g d (week d) +ℤ MAX_PAID)) +ℤ pos (scale * pay_on week d)
  spent_more week d =
      let own : ℕ → ℕ = λ c. 5 * (further_on p (week d) c - slack p c) in
      let over : ℕ → ℕ = λ c. 5 * ((capped p week d c + min (lectures_on p (week d) c - 1) (slack p c)) - slack p c) in
      let both = sum_by-same (λ c. 5 * ((capped p week d c + (lectures_on p (week d) c - 1)) - slack p c)) (λ c. own c + over c) g.courses
      (λ c. omega arith) in
      let points : spent p (claimed g) week (d + 1)
      ≡ spent p (claimed g) week d + (day_cost p (unpriced g) (week d) + sum_by own g.courses) + sum_by over g.courses =
      omega (arith, spent-more p (claimed g) week d, both, sum_by-plus own over g.courses) in
      let scaled = ap (λ n. scale * n) points in
      let prices = signed_sum-more (λ i. day_prices p g i (week i)) d in
      omega (arith, ints, scaled, prices)

  -- at the end of the week a plan has spent all but what every week pays
  pub plan_spent : (week : Week) → plan_paid p scale g week +ℤ pos (1099511627776 * p.days)
      ≡ spent_raised week p.days +ℤ pos (base_paid p scale g)
  plan_spent week =
      let scaled = ap (λ n. scale * n) (points_spent p g week) in
      omega (arith, ints, scaled)

  -- ---- weeks with the same first days

  module _ (a b : Week) (d : ℕ) (same : (i : ℕ) → i < d → a i ≡ b i) where
    pub used_same : (c : ℕ) → used p a d c ≡ used p b d c
    used_same c = sum_by-same_below (λ i. lectures_on p (a i) c) (λ i. lectures_on p (b i) c) d
        (λ i h. ap (λ w. lectures_on p w c) (same i h))

    pub further_same : (c : ℕ) → further p a d c ≡ further p b d c
    further_same c = sum_by-same_below (λ i. lectures_on p (a i) c - 1) (λ i. lectures_on p (b i) c - 1) d
        (λ i h. ap (λ w. lectures_on p w c - 1) (same i h))

    pub spent_raised_same : spent_raised a d ≡ spent_raised b d
    spent_raised_same =
        let days = sum_by-same_below (λ i. day_cost p (claimed g) (a i)) (λ i. day_cost p (claimed g) (b i)) d
        (λ i h. ap (day_cost p (claimed g)) (same i h)) in
        let courses = sum_by-same (λ c. 5 * (further p a d c - slack p c)) (λ c. 5 * (further p b d c - slack p c)) g.courses
        (λ c. ap (λ n. 5 * (n - slack p c)) (further_same c)) in
        let points : spent p (claimed g) a d ≡ spent p (claimed g) b d = omega (arith, days, courses) in
        let prices = signed_sum-same_member (λ i. day_prices p g i (a i)) (λ i. day_prices p g i (b i)) (range_below d)
        (λ i m. ap (day_prices p g i) (same i (below_member d i m))) in
        ap (λ n. pos (scale * n + 1099511627776 * d) +ℤ signed_sum (λ i. day_prices p g i (a i)) (range_below d)) points
        ∙ ap (λ z. pos (scale * spent p (claimed g) b d + 1099511627776 * d) +ℤ z) prices
