-- The dynamic program over the days of the week: tables that are never above the truth bound the cost of the group.
use Rattle.std.proofs.Common.{◌≡◌, ℕ, zero, suc, ◌+◌, ◌-◌, ◌*◌, ◌≤◌, ◌<◌, refl, subst, arith, inl, inr}
use Rattle.std.specs.Prelude.{min}
use Rattle.std.proofs.lemmas.Bool.{cases_lt}
use Rattle.tt_list_laws.proofs.Sums.{sum_by-plus, sum_by-same}
use Rattle.tt_list_laws.proofs.Numbers.{sum_more}
use Rattle.tt_instance.specs.Problem.{Problem}
use Rattle.tt_groups.specs.Group.{Group, IsGroupBound}
use Rattle.tt_groups.specs.Plans.{Week, week_of, lectures_on, day_cost, IsPlan, used, further, slack, capped, base_cost, spent}
use Rattle.tt_groups.specs.Tables.{Vector, Fits, IsDayTable, IsWeekTable, overrun, Extends, Starts, Reaches}
use Rattle.tt_groups.proofs.Projection.{plan_of, plan-le_cost}
use Rattle.tt_groups.proofs.Lists.{sum_first}

module _ (p : Problem) (g : Group) where
  -- -- another day

  module _ (week : Week) (d : ℕ) where
    abbrev today : Vector
    today = lectures_on p (week d)

    further-more : (c : ℕ) → further p week (d + 1) c ≡ further p week d c + (today c - 1)
    further-more c = sum_more (λ i. lectures_on p (week i) c - 1) d

    pub used-more : (c : ℕ) → used p week (d + 1) c ≡ used p week d c + today c
    used-more c = sum_more (λ i. lectures_on p (week i) c) d

    pub capped-more : (c : ℕ) → capped p week (d + 1) c ≡ min (capped p week d c + (today c - 1)) (slack p c)
    capped-more c = let e = further-more c in omega arith

    pub spent-more : spent p g week (d + 1) ≡ spent p g week d + day_cost p g (week d) + overrun p g (capped p week d) today
    spent-more =
        let before : ℕ → ℕ = λ c. 5 * (further p week d c - slack p c) in
        let more : ℕ → ℕ = λ c. 5 * ((capped p week d c + (today c - 1)) - slack p c) in
        let days = sum_more (λ i. day_cost p g (week i)) d in
        let each_course = sum_by-same (λ c. 5 * (further p week (d + 1) c - slack p c)) (λ c. before c + more c) g.courses
        (λ c. let e = further-more c in omega arith) in
        let both = sum_by-plus before more g.courses in
        omega (arith, days, each_course, both)

    -- a course has used no more than its lectures so far
    pub used-fits : IsPlan p g week → d ≤ p.days → Fits p g (used p week d)
    used-fits plan h c own = let e = plan.lectures c own in omega (arith, e, sum_first (λ i. lectures_on p (week i) c) d p.days h)

  -- ---- the tables

  module _ (b : ℕ) where
    pub week_start : (v : Vector → Vector → ℕ) → Starts v → IsWeekTable p g b 0 v
    week_start v starts =
        record { low = λ week plan h. omega (arith, starts.free (used p week 0) (capped p week 0) (λ c. refl) (λ c. omega arith)) }

    pub week_next : (d : ℕ) (f : Vector → ℕ) (v next : Vector → Vector → ℕ) → d < p.days → IsDayTable p g b d f → IsWeekTable p g b d v
        → Extends p g b f v next → IsWeekTable p g b (d + 1) next
    week_next d f v next h day table extends = record {
      low = λ week plan less.
          let more = spent-more week d in
          let total = used-fits week (d + 1) plan (omega arith) in
          let today_fits : Fits p g (lectures_on p (week d)) = λ c own. omega (arith, total c own, used-more week d c) in
          let so_far = table.low week plan (omega arith) in
          let this_day = day.low (week d) (plan.days d h) today_fits (omega arith) in
          let reached = extends.low (used p week d) (capped p week d) (lectures_on p (week d)) (used p week (d + 1))
          (capped p week (d + 1)) (used-more week d) (capped-more week d) total (λ c. omega arith) (omega arith) in
          omega arith;
    }

    pub week_end : (v : Vector → Vector → ℕ) → IsWeekTable p g b p.days v → Reaches p g b v → IsGroupBound p g (base_cost p g + b)
    week_end v table reaches t week = elim (cases_lt (spent p g (week_of t) p.days) b) [
      | inl h ↦
          let plan = plan_of p g t week in
          let low = table.low (week_of t) plan h in
          let high = reaches.high (used p (week_of t) p.days) (capped p (week_of t) p.days) plan.lectures (λ c. omega arith) in
          absurd (omega arith)
      | inr h ↦ omega (arith, plan-le_cost p g t week)
    ]

    -- by induction over the days
    weeks : (f : ℕ → Vector → ℕ) (v : ℕ → Vector → Vector → ℕ) → Starts (v 0) → ((d : ℕ) → d < p.days → IsDayTable p g b d (f d))
        → ((d : ℕ) → d < p.days → Extends p g b (f d) (v d) (v (d + 1))) → (d : ℕ) → d ≤ p.days → IsWeekTable p g b d (v d)
    weeks f v starts days steps zero h = week_start (v 0) starts
    weeks f v starts days steps (suc d) h =
        let e : d + 1 ≡ suc d = omega arith in
        subst (λ n. IsWeekTable p g b n (v n)) e (week_next d (f d) (v d) (v (d + 1)) (omega arith) (days d (omega arith))
        (weeks f v starts days steps d (omega arith)) (steps d (omega arith)))

    -- Tables of all days bound the group's cost.
    pub program_bound : (f : ℕ → Vector → ℕ) (v : ℕ → Vector → Vector → ℕ) → Starts (v 0)
        → ((d : ℕ) → d < p.days → IsDayTable p g b d (f d)) → ((d : ℕ) → d < p.days → Extends p g b (f d) (v d) (v (d + 1)))
        → Reaches p g b (v p.days) → IsGroupBound p g (base_cost p g + b)
    program_bound f v starts days steps reaches = week_end (v p.days) (weeks f v starts days steps p.days (omega arith)) reaches
