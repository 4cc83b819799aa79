-- Claims of distinct targets together have at most the value of the cost.
use Rattle.std.proofs.Common.{◌≡◌, ℕ, ◌+◌, ◌*◌, ◌≤◌, ◌<◌, Bool, true, not, cond, ◌&&◌, List, [], ◌∷◌, ◌++◌, map, length, length-append, refl, ap, arith, inl, inr, eqb-true, eq-eqb}
use Rattle.std.specs.Prelude.{Contains, ◌⊎◌, sum_by}
use Rattle.std.specs.List.{list_any, list_all, AllByRecursion}
use Rattle.std.proofs.lemmas.List.{get_or_past, length-map}
use Rattle.std.proofs.lemmas.List.FromFn.{length-range_with_len}
use Rattle.std.proofs.lemmas.List.Sums.{sum_by-append}
use Rattle.std.proofs.lemmas.List.Folds.{list_any-append}
use Rattle.std.proofs.lemmas.Bool.{both_ways, cases_lt, or_left, or_right, and_parts}
use Rattle.tt_list_laws.specs.Words.{has_number, range_below, each_two}
use Rattle.tt_instance.specs.Problem.{Problem}
use Rattle.tt_instance.specs.Courses.{no_course, no_curriculum, in_curriculum, excess}
use Rattle.tt_instance.specs.Cells.{all_courses, all_curricula, all_rooms, is_of, is_in}
use Rattle.tt_rules.specs.Soft.{is_isolated}
use Rattle.tt_rules.specs.Score.{cost, IsFeasible}
use Rattle.tt_path.specs.Facts.{Fits}
use Rattle.tt_leaf_rules.specs.Claims.{Target, part, targets_of, value_of, is_fair, claimed, total_of}
use Rattle.tt_leaf_rules.specs.Claims.{RoomCapacity, WorkingDays, Compactness, Stability}
use Rattle.tt_leaf_rules.specs.Tests.{claims_once, same_target}
use Rattle.tt_instance.specs.declared.cell.Cell.{Cell}
use Rattle.tt_path.specs.declared.facts.Fact.{Fact}
use Rattle.tt_leaf.specs.declared.leaf.Claim.{Claim}
use Rattle.tt_leaf.specs.declared.leaf.Claim.TheVariants.{Capacity, Days, Compact, Stable, Prices, Stacked}
use Rattle.tt_list_laws.proofs.Sums.{sum_by-le, sum_by-of_map, sum_by-of_flat_map, each, list_any-of_map, spread_down, once_at_most, sum_by-nothing}
use Rattle.tt_list_laws.proofs.Numbers.{any_below, count_below}
use Rattle.tt_list_laws.proofs.Members.{each_two-of_append, each_member, member_from_any, none_counted}
use Rattle.tt_list_laws.proofs.Apart.{distinct_sum}
use Rattle.tt_list_laws.proofs.Counting.{nothing_if}
use Rattle.tt_rules.proofs.Feasible.{in_range}
use Rattle.tt_leaf_rules.proofs.MoreValues.{priced_sound, stacked_sound}
use Rattle.tt_leaf_rules.proofs.Values.{capacity_sound, days_sound, compact_sound, stable_sound}

-- ---- targets

abbrev pub all_targets : Problem → List Target
all_targets p =
    map RoomCapacity (all_courses p) ++
    (map WorkingDays (all_courses p) ++ (map Compactness (all_curricula p) ++ map Stability (all_courses p)))

pub same_target-true : (a b : Target) → same_target a b ≡ true → a ≡ b
same_target-true (RoomCapacity a) (RoomCapacity b) e = ap RoomCapacity (eqb-true a b e)
same_target-true (WorkingDays a) (WorkingDays b) e = ap WorkingDays (eqb-true a b e)
same_target-true (Compactness a) (Compactness b) e = ap Compactness (eqb-true a b e)
same_target-true (Stability a) (Stability b) e = ap Stability (eqb-true a b e)
same_target-true (RoomCapacity a) (WorkingDays b) e = cc
same_target-true (RoomCapacity a) (Compactness b) e = cc
same_target-true (RoomCapacity a) (Stability b) e = cc
same_target-true (WorkingDays a) (RoomCapacity b) e = cc
same_target-true (WorkingDays a) (Compactness b) e = cc
same_target-true (WorkingDays a) (Stability b) e = cc
same_target-true (Compactness a) (RoomCapacity b) e = cc
same_target-true (Compactness a) (WorkingDays b) e = cc
same_target-true (Compactness a) (Stability b) e = cc
same_target-true (Stability a) (RoomCapacity b) e = cc
same_target-true (Stability a) (WorkingDays b) e = cc
same_target-true (Stability a) (Compactness b) e = cc

pub same_target-itself : (a : Target) → same_target a a ≡ true
same_target-itself (RoomCapacity a) = eq-eqb a a refl
same_target-itself (WorkingDays a) = eq-eqb a a refl
same_target-itself (Compactness a) = eq-eqb a a refl
same_target-itself (Stability a) = eq-eqb a a refl

-- a number below the bound has a target of its kind
there_below : (kind : ℕ → Target) → ((i : ℕ) → same_target (kind i) (kind i) ≡ true) → (i n : ℕ) → i < n
    → list_any (same_target (kind i)) (map kind (range_below n)) ≡ true
there_below kind itself i n h =
    rw (list_any-of_map (same_target (kind i)) kind (range_below n)) (any_below (λ k. same_target (kind i) (kind k)) n i h (itself i))

in_first : (test : Target → Bool) (xs ys : List Target) → list_any test xs ≡ true → list_any test (xs ++ ys) ≡ true
in_first test xs ys e = rw (list_any-append test xs ys) (or_left (list_any test xs) (list_any test ys) e)

in_rest : (test : Target → Bool) (xs ys : List Target) → list_any test ys ≡ true → list_any test (xs ++ ys) ≡ true
in_rest test xs ys e = rw (list_any-append test xs ys) (or_right (list_any test xs) (list_any test ys) e)

module _ (p : Problem) where
  abbrev capacity : List Target
  capacity = map RoomCapacity (all_courses p)

  abbrev days : List Target
  days = map WorkingDays (all_courses p)

  abbrev compactness : List Target
  compactness = map Compactness (all_curricula p)

  abbrev stability : List Target
  stability = map Stability (all_courses p)

  pub capacity_there : (c : ℕ) → c < length p.courses → list_any (same_target (RoomCapacity c)) (all_targets p) ≡ true
  capacity_there c h =
      in_first (same_target (RoomCapacity c)) capacity (days ++ (compactness ++ stability))
      (there_below RoomCapacity (λ i. eq-eqb i i refl) c (length p.courses) h)

  pub days_there : (c : ℕ) → c < length p.courses → list_any (same_target (WorkingDays c)) (all_targets p) ≡ true
  days_there c h =
      in_rest (same_target (WorkingDays c)) capacity (days ++ (compactness ++ stability))
      (in_first (same_target (WorkingDays c)) days (compactness ++ stability)
      (there_below WorkingDays (λ i. eq-eqb i i refl) c (length p.courses) h))

  pub compactness_there : (q : ℕ) → q < length p.curricula → list_any (same_target (Compactness q)) (all_targets p) ≡ true
  compactness_there q h =
      in_rest (same_target (Compactness q)) capacity (days ++ (compactness ++ stability))
      (in_rest (same_target (Compactness q)) days (compactness ++ stability)
      (in_first (same_target (Compactness q)) compactness stability
      (there_below Compactness (λ i. eq-eqb i i refl) q (length p.curricula) h)))

  pub stability_there : (c : ℕ) → c < length p.courses → list_any (same_target (Stability c)) (all_targets p) ≡ true
  stability_there c h =
      in_rest (same_target (Stability c)) capacity (days ++ (compactness ++ stability))
      (in_rest (same_target (Stability c)) days (compactness ++ stability)
      (in_rest (same_target (Stability c)) compactness stability (there_below Stability (λ i. eq-eqb i i refl) c (length p.courses) h)))

  pub length-all_targets : length (all_targets p) ≡ 3 * length p.courses + length p.curricula
  length-all_targets =
      omega (
        arith,
        length-append capacity (days ++ (compactness ++ stability)),
        length-append days (compactness ++ stability),
        length-append compactness stability,
        length-map (all_courses p) RoomCapacity,
        length-map (all_courses p) WorkingDays,
        length-map (all_curricula p) Compactness,
        length-map (all_courses p) Stability,
        length-range_with_len 0 (length p.courses),
        length-range_with_len 0 (length p.curricula),
      )

  module _ (t : List Cell) (ok : IsFeasible p t) where
    -- the parts of all targets add up to at most the cost
    pub parts_of_cost : sum_by (part p t) (all_targets p) ≤ cost p t
    parts_of_cost =
        let f = part p t in
        let a = sum_by-append f capacity (days ++ (compactness ++ stability)) in
        let b = sum_by-append f days (compactness ++ stability) in
        let c = sum_by-append f compactness stability in
        let k = spread_down (λ e. excess p e.course e.room) (λ i e. cond (is_of i e) (excess p e.course e.room) 0) t (all_courses p)
        (each (λ e. sum_by (λ i. cond (is_of i e) (excess p e.course e.room) 0) (all_courses p) ≤ excess p e.course e.room) (λ e.
        once_at_most true (λ i. is_of i e) (excess p e.course e.room) (all_courses p) (count_below e.course (length p.courses))) t) in
        omega (
          arith,
          sum_by-of_map f RoomCapacity (all_courses p),
          sum_by-of_map f WorkingDays (all_courses p),
          sum_by-of_map f Compactness (all_curricula p),
          sum_by-of_map f Stability (all_courses p),
        )

    no_entry : (c : ℕ) → length p.courses ≤ c → (x : Cell) → Contains t x → is_of c x ≡ true → ⊥
    no_entry c h x m e = let r = in_range p t ok x m in let k = eqb-true x.course c e in absurd (omega (arith, r.course))

    -- a target is in the list, or its part is 0
    pub target_there : (y : Target) → (part p t y ≡ 0) ⊎ (list_any (same_target y) (all_targets p) ≡ true)
    target_there (RoomCapacity c) = elim (cases_lt c (length p.courses)) [
      | inl h ↦ inr (capacity_there c h)
      | inr h ↦ inl (let k = sum_by-le (λ e. cond (is_of c e) (excess p e.course e.room) 0) (λ e. 0) t
          (each_member (λ e. cond (is_of c e) (excess p e.course e.room) 0 ≤ 0) t
          (λ e m. nothing_if (is_of c e) (excess p e.course e.room) (no_entry c h e m))) in
          omega (arith, sum_by-nothing t))
    ]
    target_there (WorkingDays c) = elim (cases_lt c (length p.courses)) [
      | inl h ↦ inr (days_there c h)
      | inr h ↦ inl (let k = ap (λ i. i.min_days) (get_or_past p.courses c no_course h) in omega arith)
    ]
    target_there (Compactness q) = elim (cases_lt q (length p.curricula)) [
      | inl h ↦ inr (compactness_there q h)
      | inr h ↦ inl (let k = none_counted (λ e. in_curriculum p q e.course && is_isolated p t q e) t (λ x m e.
          both_ways (in_curriculum p q x.course) (ap (λ k. has_number k.members x.course) (get_or_past p.curricula q no_curriculum h))
          (and_parts (in_curriculum p q x.course) (is_isolated p t q x) e).0) in
          omega arith)
    ]
    target_there (Stability c) = elim (cases_lt c (length p.courses)) [
      | inl h ↦ inr (stability_there c h)
      | inr h ↦ inl (let k = none_counted (λ r. list_any (λ e. is_of c e && is_in r e) t) (all_rooms p) (λ r m e.
          let w = member_from_any (λ x. is_of c x && is_in r x) t e in
          no_entry c h w.0 w.1 (and_parts (is_of c w.0) (is_in r w.0) w.2).0) in
          omega arith)
    ]

    module _ (path : List Fact) (fits : Fits p t path) where
      claim_sound : (claim : Claim) → each_two (λ a b. not (same_target a b)) (targets_of claim) ≡ true → is_fair p path claim ≡ true
          → value_of p path claim ≤ sum_by (part p t) (targets_of claim)
      claim_sound (Capacity c u) once fair = omega (arith, capacity_sound p t ok path fits c u)
      claim_sound (Days c) once fair = omega (arith, days_sound p t ok path fits c)
      claim_sound (Compact q) once fair = omega (arith, compact_sound p t ok path fits q)
      claim_sound (Stable c) once fair = omega (arith, stable_sound p t ok path fits c)
      claim_sound (Prices courses rooms) once fair = priced_sound p t ok path fits courses rooms once fair
      claim_sound (Stacked c) once fair = omega (arith, stacked_sound p t ok path fits c)

      pub each_claim_sound : (claims : List Claim) → claims_once claims ≡ true → list_all (is_fair p path) claims ≡ true
          → AllByRecursion (λ c. value_of p path c ≤ sum_by (part p t) (targets_of c)) claims
      each_claim_sound [] once fair = tt
      each_claim_sound (c ∷ cs) once fair =
          let a = each_two-of_append (λ a b. not (same_target a b)) (targets_of c) (claimed cs) once in
          let b = and_parts (is_fair p path c) (list_all (is_fair p path) cs) fair in
          (claim_sound c a.0 b.0, each_claim_sound cs a.1 b.1)

      -- the values of claims of distinct targets add up to at most the parts of a list that has each of these targets, except those
      -- with part 0
      pub claims_sound_over : (claims : List Claim) (targets : List Target) → claims_once claims ≡ true
          → list_all (is_fair p path) claims ≡ true
          → ((y : Target) → Contains (claimed claims) y → (part p t y ≡ 0) ⊎ (list_any (same_target y) targets ≡ true))
          → total_of p path claims ≤ sum_by (part p t) targets
      claims_sound_over claims targets once fair there =
          let values = sum_by-le (value_of p path) (λ c. sum_by (part p t) (targets_of c)) claims (each_claim_sound claims once fair) in
          let joined = sum_by-of_flat_map (part p t) targets_of claims in
          let distinct = distinct_sum same_target same_target-true same_target-itself (part p t) (claimed claims) targets once there in
          omega arith

      pub claims_sound : (claims : List Claim) → claims_once claims ≡ true → list_all (is_fair p path) claims ≡ true
          → total_of p path claims ≤ cost p t
      claims_sound claims once fair =
          let own = claims_sound_over claims (all_targets p) once fair (λ y m. target_there y) in
          let all = parts_of_cost in
          omega arith
