-- The leaves of the claims of positive value may appear in a proof.
use Rattle.std.proofs.Common.{◌≡◌, ℕ, ◌≤◌, ◌<◌, Bool, true, false, List, map, length, Some, refl, arith}
use Rattle.std.specs.Prelude.{All, nat_lt}
use Rattle.std.proofs.lemmas.List.Elements.{All-contains, All-filter, All-from_recursion}
use Rattle.tt_list_laws.proofs.Finding.{find_member}
use Rattle.tt_list_laws.proofs.Given.{each_given}
use Rattle.tt_list_laws.proofs.Range.{each_below}
use Rattle.tt_list_laws.proofs.Tested.{each_map}
use Rattle.tt_instance.specs.Problem.{Problem}
use Rattle.tt_instance.specs.Limits.{IsInstance}
use Rattle.tt_instance.specs.Cells.{cell, all_slots, all_rooms, all_curricula}
use Rattle.tt_instance.specs.Courses.{excess}
use Rattle.tt_instance.proofs.CourseLimits.{few_students}
use Rattle.tt_path.specs.Live.{is_live, least_excess}
use Rattle.tt_path.specs.declared.facts.Fact.{Fact}
use Rattle.tt_path.proofs.Least.{least_short}
use Rattle.tt_leaf_rules.specs.Claims.{value_of}
use Rattle.tt_leaf.specs.Ranges.{IsClaimOf}
use Rattle.tt_leaf.specs.declared.leaf.Claim.{Claim}
use Rattle.tt_leaf.specs.declared.leaf.Claim.TheVariants.{Days, Compact, Stacked}
use Rattle.tt_leaf.specs.declared.leaf.Leaf.TheVariants.{Cost}
use Rattle.tt_proof_read.specs.Limits.{IsShortClaim}
use Rattle.tt_leaf_find.specs.Best.{is_kth, least_excesses, price_of, worth, days_of, claims_with, best_leaf, stacked_leaf}
use Rattle.tt_leaf_find.specs.Found.{IsAnswer, IsFitClaim}
use Rattle.tt_leaf_find.proofs.Claims.{each_claim}

-- the claims of compactness
pub compact_fit : (p : Problem) (path : List Fact) → All (IsFitClaim p) (worth p path (map Compact (all_curricula p)))
compact_fit p path =
    All-filter (λ k. nat_lt 0 (value_of p path k)) (IsFitClaim p) (map Compact (all_curricula p))
    (All-from_recursion (IsFitClaim p) (map Compact (all_curricula p))
    (each_map (IsFitClaim p) Compact (all_curricula p)
    (each_below (λ k. IsFitClaim p (Compact k)) (length p.curricula) (λ q h. record { numbers = h; short = tt }))))

-- the leaf of claims that fit
pub fit_answer : (p : Problem) (claims : List Claim) → All (IsFitClaim p) claims → IsAnswer p (Cost claims)
fit_answer p claims a = record { numbers = λ k d h. (a k d h).numbers; short = λ k d h. (a k d h).short }

module _ (p : Problem) (path : List Fact) (ok : IsInstance p) where
  pub price_short : (c u : ℕ) → c < length p.courses → price_of p path c ≡ Some u → u ≤ 1000000
  price_short c u h e =
      let ns = least_excesses p path c in
      let all = All-from_recursion (λ m. m ≤ 1000000) ns (each_given (least_excess p path c) (λ m. m ≤ 1000000) (all_slots p) (λ s m k.
      least_short 1000000 (excess p c) (λ r. is_live p path (cell c r s)) (all_rooms p) (λ r. let a = few_students p ok c h in
      omega arith) m k)) in
      All-contains (λ m. m ≤ 1000000) ns u all (find_member (is_kth ns _) ns u e)

  pub best_answer : IsAnswer p (best_leaf p path)
  best_answer = record {
    numbers = each_claim Days (λ c. refl) p path (IsClaimOf p) (λ c u h e. h) (λ c h. h) (λ q h. h) (λ c h. h);
    short = each_claim Days (λ c. refl) p path IsShortClaim (λ c u h e. price_short c u h e) (λ c h. tt) (λ q h. tt) (λ c h. tt);
  }

  pub stacked_answer : IsAnswer p (stacked_leaf p path)
  stacked_answer = record {
    numbers = each_claim Stacked (λ c. refl) p path (IsClaimOf p) (λ c u h e. h) (λ c h. h) (λ q h. h) (λ c h. h);
    short = each_claim Stacked (λ c. refl) p path IsShortClaim (λ c u h e. price_short c u h e) (λ c h. tt) (λ q h. tt) (λ c h. tt);
  }

  -- with either kind of claims on working days
  pub either_answer : (stacked : Bool) → IsAnswer p (Cost (claims_with (days_of stacked) p path))
  either_answer true = stacked_answer
  either_answer false = best_answer
