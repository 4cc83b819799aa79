-- The number of distinct numbers below a bound, and the size of sums.
use Rattle.std.proofs.Common.{◌≡◌, ℕ, ◌+◌, ◌*◌, ◌≤◌, ◌<◌, Bool, true, not, cond, List, [], ◌∷◌, map, length, refl, sym, ◌∙◌, arith, inl, inr, eqb-true, eq-eqb, lt-ltb, le-leb}
use Rattle.std.specs.Prelude.{◌==◌, ◌⊎◌, min, nat_lt, nat_le, All}
use Rattle.std.specs.List.{AllByRecursion, list_any}
use Rattle.std.proofs.Math.ListN.{get_or-map}
use Rattle.std.proofs.lemmas.List.{length-map}
use Rattle.std.proofs.lemmas.List.Elements.{recursion_from_All, All-weaker}
use Rattle.std.proofs.lemmas.List.FromFn.{length-range_with_len}
use Rattle.std.proofs.lemmas.List.Sums.{count_by-le-length}
use Rattle.std.proofs.lemmas.Bool.{cases_lt, le-ltb, lt-leb, cond-true, cond-false, cases_Bool}
use Rattle.tt_list_laws.specs.Words.{range_below, each_two}
use Rattle.tt_list_laws.proofs.Sums.{each_weaker}
use Rattle.tt_list_laws.proofs.Numbers.{any_below}
use Rattle.tt_list_laws.proofs.Counting.{length-le_sum}
use Rattle.tt_list_laws.proofs.Tested.{each_append}
use Rattle.tt_list_laws.proofs.Members.{each_two-of_map}
use Rattle.tt_list_laws.proofs.Apart.{distinct_sum}
use Rattle.tt_instance.specs.Problem.{Problem}
use Rattle.tt_leaf_rules.specs.Claims.{Target, RoomCapacity, targets_of, claimed}
use Rattle.tt_leaf_rules.specs.Inner.Nested.{PricesBelow, IsOnce}
use Rattle.tt_leaf.specs.Ranges.{AreBelow, ArePrices, IsClaimOf}
use Rattle.tt_leaf_rules.specs.Tests.{claims_once, same_target}
use Rattle.tt_leaf.specs.declared.leaf.Claim.{Claim}
use Rattle.tt_leaf.specs.declared.leaf.Claim.TheVariants.{Capacity, Days, Compact, Stable, Prices, Stacked}
use Rattle.tt_leaf_rules.proofs.Totals.{all_targets, same_target-true, same_target-itself, capacity_there, days_there, compactness_there, stability_there, length-all_targets}

-- the count of distinct numbers below a bound is at most the bound
pub distinct-le : (n : ℕ) (ns : List ℕ) → each_two (λ a b. not (a == b)) ns ≡ true → AreBelow n ns → length ns ≤ n
distinct-le n ns apart below =
    let one : ℕ → ℕ = λ k. cond (nat_lt k n) 1 0 in
    let each_one = each_weaker (λ k. k < n) (λ k. 1 ≤ one k) (λ k h. omega (arith, cond-true {A = ℕ} (nat_lt k n) 1 0 (lt-ltb k n h)))
    ns (recursion_from_All (λ k. k < n) ns below) in
    let there : (k : ℕ) → (one k ≡ 0) ⊎ (list_any (λ m. k == m) (range_below n) ≡ true) = λ k. elim (cases_lt k n) [
      | inl h ↦ inr (any_below (λ m. k == m) n k h (eq-eqb k k refl))
      | inr h ↦ inl (cond-false {A = ℕ} (nat_lt k n) 1 0 (le-ltb k n h))
    ] in
    let spread = distinct_sum (λ a b. a == b) eqb-true (λ a. eq-eqb a a refl) one ns (range_below n) apart (λ y m. there y) in
    omega (arith, length-le_sum one ns each_one, spread, count_by-le-length (λ k. nat_lt k n) (range_below n), length-range_with_len 0 n)

-- the count of prices is at most the count of numbers
pub few_prices : (n : ℕ) (prices : List (ℕ × ℕ)) → ArePrices n prices → length prices ≤ n
few_prices n prices h =
    let apart = each_two-of_map (λ a b. not (a == b)) (λ (k : ℕ × ℕ). k.0) prices ∙ h.once in
    omega (arith, distinct-le n (map (λ k. k.0) prices) apart h.within, length-map prices (λ (k : ℕ × ℕ). k.0))

pub prices_below : (n : ℕ) (prices : List (ℕ × ℕ)) → ArePrices n prices → PricesBelow n prices
prices_below n prices h = λ k d there.
    let e = get_or-map (λ (x : ℕ × ℕ). x.0) prices k d in
    let inside : k < length (map (λ (x : ℕ × ℕ). x.0) prices) = omega (arith, length-map prices (λ (x : ℕ × ℕ). x.0)) in
    omega (arith, h.within k d.0 inside, e)

-- ---- sums that stop at a limit

pub below_capped : (a b limit : ℕ) → a < limit → nat_lt a (min b limit) ≡ nat_lt a b
below_capped a b limit h = elim (cases_lt a b) [
  | inl less ↦ let k : a < min b limit = omega arith in lt-ltb a (min b limit) k ∙ sym (lt-ltb a b less)
  | inr more ↦ let k : min b limit ≤ a = omega arith in le-ltb a (min b limit) k ∙ sym (le-ltb a b more)
]

pub at_most_capped : (a b limit : ℕ) → a ≤ limit → nat_le a (min b limit) ≡ nat_le a b
at_most_capped a b limit h = elim (cases_lt b a) [
  | inl less ↦ let k : min b limit < a = omega arith in lt-leb a (min b limit) k ∙ sym (lt-leb a b less)
  | inr more ↦ let k : a ≤ min b limit = omega arith in le-leb a (min b limit) k ∙ sym (le-leb a b more)
]

-- ---- targets

-- a claim has no target twice
is_once : (p : Problem) (claim : Claim) → IsClaimOf p claim → IsOnce claim
is_once p (Capacity c u) h = refl
is_once p (Days c) h = refl
is_once p (Compact q) h = refl
is_once p (Stable c) h = refl
is_once p (Prices courses rooms) h = each_two-of_map (λ a b. not (same_target a b)) (λ (k : ℕ × ℕ). RoomCapacity k.0) courses ∙ h.0.once
is_once p (Stacked c) h = refl

pub each_once : (p : Problem) (claims : List Claim) → All (IsClaimOf p) claims → All IsOnce claims
each_once p claims h = All-weaker (IsClaimOf p) IsOnce (is_once p) claims h

abbrev IsThere : Problem → Target → Type 0
IsThere p t = list_any (same_target t) (all_targets p) ≡ true

module _ (p : Problem) where
  priced_there : (courses : List (ℕ × ℕ)) → AllByRecursion (λ c. c < length p.courses) (map (λ k. k.0) courses)
      → AllByRecursion (IsThere p) (map (λ k. RoomCapacity k.0) courses)
  priced_there [] a = tt
  priced_there (k ∷ ks) a = (capacity_there p k.0 a.0, priced_there ks a.1)

  targets_there : (claim : Claim) → IsClaimOf p claim → AllByRecursion (IsThere p) (targets_of claim)
  targets_there (Capacity c u) h = (capacity_there p c h, tt)
  targets_there (Days c) h = (days_there p c h, tt)
  targets_there (Compact q) h = (compactness_there p q h, tt)
  targets_there (Stable c) h = (stability_there p c h, tt)
  targets_there (Prices courses rooms) h =
      priced_there courses (recursion_from_All (λ c. c < length p.courses) (map (λ (k : ℕ × ℕ). k.0) courses) h.0.within)
  targets_there (Stacked c) h = (days_there p c h, tt)

  claimed_there : (claims : List Claim) → AllByRecursion (IsClaimOf p) claims → AllByRecursion (IsThere p) (claimed claims)
  claimed_there [] a = tt
  claimed_there (c ∷ cs) a = each_append (IsThere p) (targets_of c) (claimed cs) (targets_there c a.0) (claimed_there cs a.1)

  -- claims of distinct targets together have at most as many targets as there are
  pub claimed-le : (claims : List Claim) → All (IsClaimOf p) claims → claims_once claims ≡ true
      → length (claimed claims) ≤ 3 * length p.courses + length p.curricula
  claimed-le claims h apart =
      let there : Target → Bool = λ t. list_any (same_target t) (all_targets p) in
      let one : Target → ℕ = λ t. cond (there t) 1 0 in
      let each_one = each_weaker (IsThere p) (λ t. 1 ≤ one t) (λ t e. omega (arith, cond-true {A = ℕ} (there t) 1 0 e)) (claimed claims)
      (claimed_there claims (recursion_from_All (IsClaimOf p) claims h)) in
      let found : (t : Target) → (one t ≡ 0) ⊎ (there t ≡ true) = λ t. elim (cases_Bool (there t)) [
        | inl e ↦ inr e
        | inr e ↦ inl (cond-false {A = ℕ} (there t) 1 0 e)
      ] in
      let spread = distinct_sum same_target same_target-true same_target-itself one (claimed claims) (all_targets p) apart
      (λ y m. found y) in
      omega (arith, length-le_sum one (claimed claims) each_one, spread, count_by-le-length there (all_targets p), length-all_targets p)
