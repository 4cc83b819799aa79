-- The maximum cost of a timetable, and the maximum value of claims.
use Rattle.std.proofs.Common.{◌≡◌, ℕ, ◌*◌, ◌≤◌, ◌<◌, List, [], length, Option, Some, None, refl, ap, arith}
use Rattle.std.proofs.Common.{◌&&◌, zero-le}
use Rattle.std.specs.Prelude.{sum_by}
use Rattle.std.specs.List.{AllByRecursion, list_any}
use Rattle.std.proofs.lemmas.List.Sums.{sum_by-cons, count_by-le-length}
use Rattle.std.proofs.lemmas.List.FromFn.{length-range_with_len}
use Rattle.std.proofs.Math.Nat.{mul-le-mul_left}
use Rattle.tt_list_laws.proofs.Members.{each_member}
use Rattle.tt_list_laws.proofs.Sums.{sum_by-le, sum_by-times, each}
use Rattle.tt_list_laws.proofs.Range.{each_below}
use Rattle.tt_list_laws.proofs.Counting.{sum_by-ones}
use Rattle.tt_instance.specs.Problem.{Problem}
use Rattle.tt_instance.specs.Limits.{IsInstance}
use Rattle.tt_instance.specs.Cells.{all_courses, all_curricula, all_rooms, all_slots, is_of, is_in}
use Rattle.tt_instance.specs.Courses.{lectures, min_days, excess, no_course, in_curriculum}
use Rattle.tt_instance.specs.declared.cell.Cell.{Cell}
use Rattle.tt_instance.proofs.Slots.{length-all_slots}
use Rattle.tt_instance.proofs.CourseLimits.{few_students, few_lectures}
use Rattle.tt_rules.specs.Hard.{entries_of}
use Rattle.tt_rules.specs.Soft.{days_cost, is_isolated, compactness_cost, stability_cost}
use Rattle.tt_rules.specs.Score.{IsFeasible, cost}
use Rattle.tt_rules.proofs.Feasible.{lectures_met, in_range}
use Rattle.tt_path.specs.Live.{pinned, pinned_room}
use Rattle.tt_path.specs.declared.facts.Who.TheVariants.{Curriculum}
use Rattle.tt_path.specs.declared.facts.Fact.{Fact}
use Rattle.tt_leaf_rules.specs.Claims.{is_alone, value_of, total_of}
use Rattle.tt_leaf.specs.declared.leaf.Claim.TheVariants.{Capacity, Days, Compact, Stable}
use Rattle.tt_leaf_find.specs.Best.{price_of, at_price, best_claims}
use Rattle.tt_leaf_find.proofs.Answering.{price_short}
use Rattle.tt_leaf_find.proofs.Claims.{total-claims}
use Rattle.tt_branch.proofs.LiveTables.{entries_up}

-- terms that are at most a number
most : {X : Type 0} (f : X → ℕ) (k : ℕ) (xs : List X) → AllByRecursion (λ x. f x ≤ 1 * k) xs → sum_by f xs ≤ length xs * k
most f k xs a =
    let b = sum_by-le f (λ x. 1 * k) xs a in
    let c = sum_by-times (λ x. 1) k xs in
    let d = ap (λ n. n * k) (sum_by-ones xs) in
    omega arith

module _ (p : Problem) (ok : IsInstance p) where
  many_courses : length (all_courses p) ≤ 2048
  many_courses = omega (arith, length-range_with_len 0 (length p.courses), ok.within.courses)

  many_curricula : length (all_curricula p) ≤ 8192
  many_curricula = omega (arith, length-range_with_len 0 (length p.curricula), ok.within.curricula)

  many_rooms : length (all_rooms p) ≤ 512
  many_rooms = omega (arith, length-range_with_len 0 (length p.rooms), ok.within.rooms)

  many_slots : length (all_slots p) ≤ 512
  many_slots = omega (arith, length-all_slots p, ok.within.slots)

  few_days : (c : ℕ) → c < length p.courses → min_days p c ≤ 512
  few_days c h = (ok.within.each_course c no_course h).0

  -- ---- a feasible timetable

  -- the cost of a timetable that breaks no hard rule is at most the maximum bound
  pub cost_limit : (t : List Cell) → IsFeasible p t → cost p t ≤ 1000000000000
  cost_limit t whole =
      let at_most : length t ≤ 4096 = omega (
        arith,
        entries_up p t (in_range p t whole),
        sum_by-le (entries_of t) (lectures p) (all_courses p)
            (each (λ c. entries_of t c ≤ lectures p c) (λ c. let e = lectures_met p t whole c in omega arith) (all_courses p)),
        few_lectures p ok,
      ) in
      let seats = most (λ e. excess p e.course e.room) 1000000 t
      (each_member (λ e. excess p e.course e.room ≤ 1 * 1000000) t
      (λ e m. let s = few_students p ok e.course (in_range p t whole e m).course in omega arith)) in
      let days = most (days_cost p t) 2560 (all_courses p)
      (each_below (λ c. days_cost p t c ≤ 1 * 2560) (length p.courses) (λ c h. let d = few_days c h in omega arith)) in
      let compact = most (compactness_cost p t) 8192 (all_curricula p)
      (each (λ q. compactness_cost p t q ≤ 1 * 8192)
      (λ q. let n = count_by-le-length (λ e. in_curriculum p q e.course && is_isolated p t q e) t in omega arith)
      (all_curricula p)) in
      let stable = most (stability_cost p t) 512 (all_courses p)
      (each (λ c. stability_cost p t c ≤ 1 * 512) (λ c. let n = count_by-le-length (λ r. list_any (λ e. is_of c e && is_in r e) t)
      (all_rooms p) in let m = many_rooms in omega arith) (all_courses p)) in
      let a = many_courses in
      let b = many_curricula in
      omega arith

  -- ---- the best claims

  module _ (path : List Fact) where
    one_price : (c : ℕ) (o : Option ℕ) → ((u : ℕ) → o ≡ Some u → u ≤ 1000000)
        → sum_by (value_of p path) (at_price c o) ≤ lectures p c * 1000000
    one_price c None f = zero-le
    one_price c (Some u) f =
        let h = mul-le-mul_left (lectures p c) (f u refl) in
        let s = sum_by-cons (value_of p path) (Capacity c u) [] in
        omega arith

    -- the value of the best claims is at most the maximum bound
    pub total_limit : total_of p path (best_claims p path) ≤ 1000000000000
    total_limit =
        let seats : sum_by (λ c. sum_by (value_of p path) (at_price c (price_of p path c))) (all_courses p) ≤ sum_by
        (λ c. lectures p c * 1000000) (all_courses p) =
        sum_by-le (λ c. sum_by (value_of p path) (at_price c (price_of p path c))) (λ c. lectures p c * 1000000) (all_courses p)
        (each_below (λ c. sum_by (value_of p path) (at_price c (price_of p path c)) ≤ lectures p c * 1000000) (length p.courses)
        (λ c h. one_price c (price_of p path c) (λ u e. price_short p path ok c u h e))) in
        let times = sum_by-times (lectures p) 1000000 (all_courses p) in
        let placed = few_lectures p ok in
        let days = most (λ c. value_of p path (Days c)) 2560 (all_courses p)
        (each_below (λ c. value_of p path (Days c) ≤ 1 * 2560) (length p.courses) (λ c h. let d = few_days c h in omega arith)) in
        let compact = most (λ q. value_of p path (Compact q)) 1024 (all_curricula p)
        (each (λ q. value_of p path (Compact q) ≤ 1 * 1024)
        (λ q. let n = count_by-le-length (λ s. pinned p path (Curriculum q) s && is_alone p path q s) (all_slots p) in
        let m = many_slots in omega arith) (all_curricula p)) in
        let stable = most (λ c. value_of p path (Stable c)) 512 (all_courses p)
        (each (λ c. value_of p path (Stable c) ≤ 1 * 512) (λ c. let n = count_by-le-length (pinned_room p path c) (all_rooms p) in
        let m = many_rooms in omega arith) (all_courses p)) in
        let a = many_courses in
        let b = many_curricula in
        let total = total-claims Days (λ c. refl) p path in
        omega arith
