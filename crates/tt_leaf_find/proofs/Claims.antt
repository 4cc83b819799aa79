-- The claims of positive value: each target once, none of them unfair, their numbers in the range of the instance.
use Rattle.std.proofs.Common.{◌≡◌, ℕ, ◌+◌, ◌<◌, Bool, true, not, cond, ◌&&◌, List, [], ◌∷◌, ◌++◌, map, length, Option, Some, None, refl, sym, ap, ◌∙◌, append_assoc, arith, inl, inr, lt-ltb}
use Rattle.std.specs.Prelude.{◌==◌, sum_by, filter, All, nat_lt, is_some}
use Rattle.std.specs.List.{list_all, AllByRecursion}
use Rattle.std.proofs.lemmas.List.Elements.{filter-append, All-filter, All-from_recursion, recursion_from_All}
use Rattle.std.proofs.lemmas.List.Folds.{list_all-append, list_all-map}
use Rattle.std.proofs.lemmas.List.Sums.{sum_by-append}
use Rattle.std.proofs.lemmas.Bool.{and_from, cases_lt, le-ltb, cond-true, cond-false}
use Rattle.tt_list_laws.specs.Words.{each_two}
use Rattle.tt_list_laws.proofs.Sums.{sum_by-same, sum_by-of_map, sum_by-of_flat_map, each}
use Rattle.tt_list_laws.proofs.Members.{each_two-of_map}
use Rattle.tt_list_laws.proofs.Twos.{each_two-append}
use Rattle.tt_list_laws.proofs.Below.{all_pass}
use Rattle.tt_list_laws.proofs.Filters.{each_two_kept, each_two-of_filter, sum_by-of_filter, filter_all_pass}
use Rattle.tt_list_laws.proofs.Range.{distinct_below, each_below}
use Rattle.tt_list_laws.proofs.Tested.{each_append, each_flat, each_map}
use Rattle.tt_instance.specs.Problem.{Problem}
use Rattle.tt_instance.specs.Cells.{all_courses, all_curricula}
use Rattle.tt_path.specs.declared.facts.Fact.{Fact}
use Rattle.tt_leaf_rules.specs.Claims.{Target, RoomCapacity, WorkingDays, Compactness, Stability, targets_of, claimed, is_fair, value_of, total_of}
use Rattle.tt_leaf_rules.specs.Tests.{claims_once, same_target}
use Rattle.tt_leaf.specs.declared.leaf.Claim.{Claim}
use Rattle.tt_leaf.specs.declared.leaf.Claim.TheVariants.{Capacity, Compact, Stable}
use Rattle.tt_leaf_rules.proofs.Rightness.{targets_different}
use Rattle.tt_leaf_rules.proofs.Different.{AreDifferent}
use Rattle.tt_leaf_find.specs.Best.{price_of, at_price, capacity_claims, worth, claims_with}

-- ---- targets of four kinds

abbrev kind : Target → ℕ
kind (RoomCapacity c) = 0
kind (WorkingDays c) = 1
kind (Compactness q) = 2
kind (Stability c) = 3

apart_kinds : (a b : Target) → kind a < kind b → not (same_target a b) ≡ true
apart_kinds (RoomCapacity a) (RoomCapacity b) h = absurd (omega arith)
apart_kinds (RoomCapacity a) (WorkingDays b) h = refl
apart_kinds (RoomCapacity a) (Compactness b) h = refl
apart_kinds (RoomCapacity a) (Stability b) h = refl
apart_kinds (WorkingDays a) (RoomCapacity b) h = refl
apart_kinds (WorkingDays a) (WorkingDays b) h = absurd (omega arith)
apart_kinds (WorkingDays a) (Compactness b) h = refl
apart_kinds (WorkingDays a) (Stability b) h = refl
apart_kinds (Compactness a) (RoomCapacity b) h = refl
apart_kinds (Compactness a) (WorkingDays b) h = refl
apart_kinds (Compactness a) (Compactness b) h = absurd (omega arith)
apart_kinds (Compactness a) (Stability b) h = refl
apart_kinds (Stability a) (RoomCapacity b) h = refl
apart_kinds (Stability a) (WorkingDays b) h = refl
apart_kinds (Stability a) (Compactness b) h = refl
apart_kinds (Stability a) (Stability b) h = absurd (omega arith)

abbrev differ : Target → Target → Bool
differ a b = not (same_target a b)

one_apart : (a : Target) (k : ℕ) (ys : List Target) → kind a < k → AllByRecursion (λ y. kind y ≡ k) ys → list_all (differ a) ys ≡ true
one_apart a k [] h e = refl
one_apart a k (y ∷ ys) h e = and_from (differ a y) (list_all (differ a) ys) (apart_kinds a y (omega (arith, e.0))) (one_apart a k ys h e.1)

-- targets of earlier kinds, and targets of one later kind
joined : (k : ℕ) (xs ys : List Target) → AllByRecursion (λ x. kind x < k) xs → AllByRecursion (λ y. kind y ≡ k) ys
    → each_two differ xs ≡ true → each_two differ ys ≡ true → each_two differ (xs ++ ys) ≡ true
joined k xs ys a e f g =
    each_two-append differ xs ys
    ∙ and_from (each_two differ xs) (list_all (λ x. list_all (differ x) ys) xs && each_two differ ys) f
    (and_from (list_all (λ x. list_all (differ x) ys) xs) (each_two differ ys) (cross xs a) g)
  where
    cross : (zs : List Target) → AllByRecursion (λ x. kind x < k) zs → list_all (λ x. list_all (differ x) ys) zs ≡ true
    cross [] b = refl
    cross (z ∷ zs) b = and_from (list_all (differ z) ys) (list_all (λ x. list_all (differ x) ys) zs) (one_apart z k ys b.0 e) (cross zs b.1)

-- -- the targets claimed

claimed-append : (xs ys : List Claim) → claimed (xs ++ ys) ≡ claimed xs ++ claimed ys
claimed-append [] ys = refl
claimed-append (x ∷ xs) ys = ap (λ l. targets_of x ++ l) (claimed-append xs ys)
    ∙ sym (append_assoc (targets_of x) (claimed xs) (claimed ys))

claimed-map : (claim : ℕ → Claim) (target : ℕ → Target) → ((n : ℕ) → targets_of (claim n) ≡ target n ∷ []) → (ns : List ℕ)
    → claimed (map claim ns) ≡ map target ns
claimed-map claim target h [] = refl
claimed-map claim target h (n ∷ ns) = ap (λ l. l ++ claimed (map claim ns)) (h n) ∙ ap (λ l. target n ∷ l) (claimed-map claim target h ns)

claimed-capacity : (p : Problem) (path : List Fact) (ns : List ℕ) → claimed (capacity_claims p path ns) ≡ map RoomCapacity
    (filter (λ c. is_some (price_of p path c)) ns)
claimed-capacity p path [] = refl
claimed-capacity p path (c ∷ cs) =
    claimed-append (at_price c (price_of p path c)) (capacity_claims p path cs) ∙ by_price (price_of p path c) (claimed-capacity p path cs)
  where
    by_price : (o : Option ℕ) → claimed (capacity_claims p path cs) ≡ map RoomCapacity (filter (λ k. is_some (price_of p path k)) cs)
        → claimed (at_price c o) ++ claimed (capacity_claims p path cs) ≡ map RoomCapacity
        (cond (is_some o) (c ∷ filter (λ k. is_some (price_of p path k)) cs) (filter (λ k. is_some (price_of p path k)) cs))
    by_price None e = e
    by_price (Some u) e = ap (λ l. RoomCapacity c ∷ l) e

-- all claims, before those of value 0 are omitted
abbrev all_claims : (ℕ → Claim) → Problem → List Fact → List Claim
all_claims days p path =
    capacity_claims p path (all_courses p) ++ map days (all_courses p) ++ map Compact (all_curricula p) ++ map Stable (all_courses p)

module _ (days : ℕ → Claim) (time : (c : ℕ) → targets_of (days c) ≡ WorkingDays c ∷ []) (p : Problem) (path : List Fact) where
  abbrev is_worth : Claim → Bool
  is_worth claim = nat_lt 0 (value_of p path claim)

  worth_joined : claims_with days p path ≡ worth p path (all_claims days p path)
  worth_joined =
      let a = capacity_claims p path (all_courses p) in
      let b = map days (all_courses p) in
      let c = map Compact (all_curricula p) in
      let d = map Stable (all_courses p) in
      sym (filter-append is_worth (a ++ b ++ c) d
      ∙ ap (λ l. l ++ filter is_worth d) (filter-append is_worth (a ++ b) c ∙ ap (λ l. l ++ filter is_worth c)
      (filter-append is_worth a b)))

  all_once : claims_once (all_claims days p path) ≡ true
  all_once =
      let a = capacity_claims p path (all_courses p) in
      let b = map days (all_courses p) in
      let c = map Compact (all_curricula p) in
      let d = map Stable (all_courses p) in
      let priced = filter (λ k. is_some (price_of p path k)) (all_courses p) in
      let ta = map RoomCapacity priced in
      let tb = map WorkingDays (all_courses p) in
      let tc = map Compactness (all_curricula p) in
      let td = map Stability (all_courses p) in
      let is : claimed (a ++ b ++ c ++ d) ≡ ta ++ tb ++ tc ++ td =
      claimed-append (a ++ b ++ c) d ∙ ap (λ l. l ++ claimed d) (claimed-append (a ++ b) c ∙ ap (λ l. l ++ claimed c) (claimed-append a b))
      ∙ ap (λ l. l ++ claimed b ++ claimed c ++ claimed d) (claimed-capacity p path (all_courses p))
      ∙ ap (λ l. ta ++ l ++ claimed c ++ claimed d) (claimed-map days WorkingDays time (all_courses p))
      ∙ ap (λ l. ta ++ tb ++ l ++ claimed d) (claimed-map Compact Compactness (λ n. refl) (all_curricula p))
      ∙ ap (λ l. ta ++ tb ++ tc ++ l) (claimed-map Stable Stability (λ n. refl) (all_courses p)) in
      let once = λ (target : ℕ → Target) (ns : List ℕ). each_two-of_map differ target ns in
      let of_kind = λ (target : ℕ → Target) (k : ℕ) (ns : List ℕ) (e : (n : ℕ) → kind (target n) ≡ k).
      each_map (λ y. kind y ≡ k) target ns (each (λ n. kind (target n) ≡ k) e ns) in
      let below = λ (target : ℕ → Target) (k : ℕ) (ns : List ℕ) (e : (n : ℕ) → kind (target n) < k).
      each_map (λ y. kind y < k) target ns (each (λ n. kind (target n) < k) e ns) in
      let ab = joined 1 ta tb (below RoomCapacity 1 priced (λ n. omega arith)) (of_kind WorkingDays 1 (all_courses p) (λ n. refl))
      (once RoomCapacity priced ∙ each_two-of_filter (λ x y. not (x == y)) (λ k. is_some (price_of p path k)) (all_courses p)
      (distinct_below (length p.courses)))
      (once WorkingDays (all_courses p) ∙ distinct_below (length p.courses)) in
      let abc = joined 2 (ta ++ tb) tc
      (each_append (λ y. kind y < 2) ta tb (below RoomCapacity 2 priced (λ n. omega arith))
      (below WorkingDays 2 (all_courses p) (λ n. omega arith)))
      (of_kind Compactness 2 (all_curricula p) (λ n. refl)) ab (once Compactness (all_curricula p) ∙ distinct_below (length p.curricula)) in
      let abcd = joined 3 (ta ++ tb ++ tc) td
      (each_append (λ y. kind y < 3) (ta ++ tb) tc
      (each_append (λ y. kind y < 3) ta tb (below RoomCapacity 3 priced (λ n. omega arith))
      (below WorkingDays 3 (all_courses p) (λ n. omega arith)))
      (below Compactness 3 (all_curricula p) (λ n. omega arith)))
      (of_kind Stability 3 (all_courses p) (λ n. refl)) abc (once Stability (all_courses p) ∙ distinct_below (length p.courses)) in
      ap (each_two differ) is ∙ abcd

  -- no target is claimed twice
  pub once : claims_once (claims_with days p path) ≡ true
  once = ap claims_once worth_joined ∙ each_two_kept differ targets_of is_worth (all_claims days p path) all_once

  pub all_different : AreDifferent (claimed (claims_with days p path))
  all_different = targets_different (claims_with days p path) once

  -- ---- no claim gives prices of rooms

  module _ (plain : (c : ℕ) → is_fair p path (days c) ≡ true) where
    fair_prices : (ns : List ℕ) → list_all (is_fair p path) (capacity_claims p path ns) ≡ true
    fair_prices [] = refl
    fair_prices (c ∷ cs) =
        list_all-append (is_fair p path) (at_price c (price_of p path c)) (capacity_claims p path cs)
        ∙ and_from (list_all (is_fair p path) (at_price c (price_of p path c))) (list_all (is_fair p path) (capacity_claims p path cs))
        (by_price (price_of p path c)) (fair_prices cs)
      where
        by_price : (o : Option ℕ) → list_all (is_fair p path) (at_price c o) ≡ true
        by_price None = refl
        by_price (Some u) = refl

    pub all_fair : list_all (is_fair p path) (claims_with days p path) ≡ true
    all_fair =
        let test = is_fair p path in
        let a = capacity_claims p path (all_courses p) in
        let b = map days (all_courses p) in
        let c = map Compact (all_curricula p) in
        let d = map Stable (all_courses p) in
        let kinds = λ (claim : ℕ → Claim) (ns : List ℕ) (e : (n : ℕ) → is_fair p path (claim n) ≡ true). list_all-map test claim ns
        ∙ all_pass (λ n. test (claim n)) ns e in
        ap (list_all test) worth_joined
        ∙ filter_all_pass test is_worth (all_claims days p path)
        (list_all-append test (a ++ b ++ c) d
        ∙ and_from (list_all test (a ++ b ++ c)) (list_all test d)
        (list_all-append test (a ++ b) c ∙ and_from (list_all test (a ++ b)) (list_all test c)
        (list_all-append test a b ∙ and_from (list_all test a) (list_all test b) (fair_prices (all_courses p))
        (kinds days (all_courses p) plain))
        (kinds Compact (all_curricula p) (λ n. refl)))
        (kinds Stable (all_courses p) (λ n. refl)))

  -- ---- each claim

  -- a property of the claims of each kind holds of the claims of positive value
  pub each_claim : (P : Claim → Type 0) → ((c u : ℕ) → c < length p.courses → price_of p path c ≡ Some u → P (Capacity c u))
      → ((c : ℕ) → c < length p.courses → P (days c)) → ((q : ℕ) → q < length p.curricula → P (Compact q))
      → ((c : ℕ) → c < length p.courses → P (Stable c)) → All P (claims_with days p path)
  each_claim P of_capacity of_days of_compact of_stable =
      let kept = λ (claims : List Claim) (a : AllByRecursion P claims). recursion_from_All P (worth p path claims)
      (All-filter is_worth P claims (All-from_recursion P claims a)) in
      let a = capacity_claims p path (all_courses p) in
      let b = map days (all_courses p) in
      let c = map Compact (all_curricula p) in
      let d = map Stable (all_courses p) in
      All-from_recursion P (claims_with days p path)
      (each_append P (worth p path a ++ worth p path b ++ worth p path c) (worth p path d)
      (each_append P (worth p path a ++ worth p path b) (worth p path c)
      (each_append P (worth p path a) (worth p path b)
      (kept a (each_flat P (λ k. at_price k (price_of p path k)) (all_courses p)
      (each_below (λ k. AllByRecursion P (at_price k (price_of p path k))) (length p.courses)
      (λ k h. by_price k h (price_of p path k) refl))))
      (kept b (each_map P days (all_courses p) (each_below (λ k. P (days k)) (length p.courses) of_days))))
      (kept c (each_map P Compact (all_curricula p) (each_below (λ k. P (Compact k)) (length p.curricula) of_compact))))
      (kept d (each_map P Stable (all_courses p) (each_below (λ k. P (Stable k)) (length p.courses) of_stable))))
    where
      by_price : (k : ℕ) → k < length p.courses → (o : Option ℕ) → price_of p path k ≡ o → AllByRecursion P (at_price k o)
      by_price k h None e = tt
      by_price k h (Some u) e = (of_capacity k u h e, tt)

  -- ---- their sum

  or_nothing : (n : ℕ) → cond (nat_lt 0 n) n 0 ≡ n
  or_nothing n = elim (cases_lt 0 n) [
    | inl h ↦ cond-true (nat_lt 0 n) n 0 (lt-ltb 0 n h)
    | inr h ↦ cond-false (nat_lt 0 n) n 0 (le-ltb 0 n h) ∙ omega arith
  ]

  sum_by-worth : (claims : List Claim) → sum_by (value_of p path) (worth p path claims) ≡ sum_by (value_of p path) claims
  sum_by-worth claims =
      sum_by-of_filter (value_of p path) is_worth claims
      ∙ sum_by-same (λ k. cond (is_worth k) (value_of p path k) 0) (value_of p path) claims (λ k. or_nothing (value_of p path k))

  pub total-claims : total_of p path (claims_with days p path) ≡ sum_by (λ c. sum_by (value_of p path) (at_price c (price_of p path c)))
      (all_courses p) + sum_by (λ c. value_of p path (days c)) (all_courses p) + sum_by (λ q. value_of p path (Compact q))
      (all_curricula p) + sum_by (λ c. value_of p path (Stable c)) (all_courses p)
  total-claims =
      let f = value_of p path in
      let a = capacity_claims p path (all_courses p) in
      let b = map days (all_courses p) in
      let c = map Compact (all_curricula p) in
      let d = map Stable (all_courses p) in
      omega (
        arith,
        sum_by-append f (worth p path a ++ worth p path b ++ worth p path c) (worth p path d),
        sum_by-append f (worth p path a ++ worth p path b) (worth p path c),
        sum_by-append f (worth p path a) (worth p path b),
        sum_by-worth a,
        sum_by-worth b,
        sum_by-worth c,
        sum_by-worth d,
        sum_by-of_flat_map f (λ k. at_price k (price_of p path k)) (all_courses p),
        sum_by-of_map f days (all_courses p),
        sum_by-of_map f Compact (all_curricula p),
        sum_by-of_map f Stable (all_courses p),
      )
