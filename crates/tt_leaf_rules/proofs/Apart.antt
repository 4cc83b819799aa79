-- The targets of claims, one claim at a time.
use Rattle.std.proofs.Common.{◌≡◌, ℕ, true, false, not, ◌&&◌, ◌||◌, List, [], ◌∷◌, map, refl, sym, ap, ◌∙◌}
use Rattle.std.specs.Prelude.{◌==◌, All}
use Rattle.std.specs.List.{list_any, list_all}
use Rattle.std.proofs.lemmas.List.Elements.{All-head, All-same, All-rest}
use Rattle.tt_list_laws.proofs.All.{list_all-same}
use Rattle.tt_list_laws.proofs.Sums.{list_any-of_map}
use Rattle.tt_list_laws.proofs.Twos.{list_all-not, each_two-of_flat_map}
use Rattle.tt_leaf_rules.specs.Claims.{Target, RoomCapacity, WorkingDays, Compactness, Stability, targets_of}
use Rattle.tt_leaf_rules.specs.Inner.Nested.{claims_target, are_apart, IsOnce}
use Rattle.tt_leaf_rules.specs.Tests.{claims_once, same_target}
use Rattle.tt_leaf.specs.declared.leaf.Claim.{Claim}
use Rattle.tt_leaf.specs.declared.leaf.Claim.TheVariants.{Capacity, Days, Compact, Stable, Prices, Stacked}

none_priced : (t : Target) → ((c : ℕ) → same_target t (RoomCapacity c) ≡ false) → (courses : List (ℕ × ℕ))
    → false ≡ list_any (same_target t) (map (λ k. RoomCapacity k.0) courses)
none_priced t other [] = refl
none_priced t other (k ∷ ks) =
    let rest : List Target = map (λ (k : ℕ × ℕ). RoomCapacity k.0) ks in
    none_priced t other ks ∙ ap (λ b. b || list_any (same_target t) rest) (sym (other k.0))

pub no_days : (claim : Claim) (c : ℕ) → ((k : ℕ) → claim ≡ Days k → ⊥) → ((k : ℕ) → claim ≡ Stacked k → ⊥)
    → false ≡ claims_target claim (WorkingDays c)
no_days (Capacity k u) c days stacked = refl
no_days (Days k) c days stacked = absurd (days k refl)
no_days (Compact k) c days stacked = refl
no_days (Stable k) c days stacked = refl
no_days (Prices courses rooms) c days stacked = none_priced (WorkingDays c) (λ k. refl) courses
no_days (Stacked k) c days stacked = absurd (stacked k refl)

pub no_compactness : (claim : Claim) (q : ℕ) → ((k : ℕ) → claim ≡ Compact k → ⊥) → false ≡ claims_target claim (Compactness q)
no_compactness (Capacity k u) q compact = refl
no_compactness (Days k) q compact = refl
no_compactness (Compact k) q compact = absurd (compact k refl)
no_compactness (Stable k) q compact = refl
no_compactness (Prices courses rooms) q compact = none_priced (Compactness q) (λ k. refl) courses
no_compactness (Stacked k) q compact = refl

pub no_stability : (claim : Claim) (c : ℕ) → ((k : ℕ) → claim ≡ Stable k → ⊥) → false ≡ claims_target claim (Stability c)
no_stability (Capacity k u) c stable = refl
no_stability (Days k) c stable = refl
no_stability (Compact k) c stable = refl
no_stability (Stable k) c stable = absurd (stable k refl)
no_stability (Prices courses rooms) c stable = none_priced (Stability c) (λ k. refl) courses
no_stability (Stacked k) c stable = refl

-- a claim of prices has the room capacity of each of its courses as a target
pub priced_capacity : (courses rooms : List (ℕ × ℕ)) (c : ℕ) → list_any (λ k. c == k.0) courses ≡ claims_target (Prices courses rooms)
    (RoomCapacity c)
priced_capacity courses rooms c = sym (list_any-of_map (same_target (RoomCapacity c)) (λ (k : ℕ × ℕ). RoomCapacity k.0) courses)

-- another claim
pub claims_once-cons : (c : Claim) (cs : List Claim) → IsOnce c → claims_once (c ∷ cs) ≡ (list_all (are_apart c) cs && claims_once cs)
claims_once-cons c cs once =
    each_two-of_flat_map (λ a b. not (same_target a b)) targets_of c cs once
    ∙ ap (λ b. b && claims_once cs)
    (list_all-same (λ z. list_all (λ a. list_all (λ b. not (same_target a b)) (targets_of z)) (targets_of c)) (are_apart c) cs
    (λ z. list_all-same (λ a. list_all (λ b. not (same_target a b)) (targets_of z)) (λ a. not (claims_target z a)) (targets_of c)
    (λ a. list_all-not (same_target a) (targets_of z))))

-- a loop over the claims, at the first of those left
module _ (claims rest others : List Claim) (first : Claim) (same : claims_once claims ≡ claims_once rest) (once : All IsOnce rest)
    (are : rest ≡ first ∷ others) where
  here : claims_once claims ≡ (list_all (are_apart first) others && claims_once others)
  here = same ∙ ap claims_once are
      ∙ claims_once-cons first others (All-head IsOnce first others (All-same IsOnce (first ∷ others) rest (sym are) once))

  pub once_fails : false ≡ list_all (are_apart first) others → false ≡ claims_once claims
  once_fails e = ap (λ b. b && claims_once others) e ∙ sym here

  pub once_goes_on : true ≡ list_all (are_apart first) others → claims_once claims ≡ claims_once others
  once_goes_on e = here ∙ ap (λ b. b && claims_once others) (sym e)

  pub others_once : All IsOnce others
  others_once = All-rest IsOnce first others rest are once
