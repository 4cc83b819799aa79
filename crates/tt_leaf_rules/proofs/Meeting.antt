-- Numbers that a loop meets in turn.
use Rattle.std.proofs.Common.{◌≡◌, ℕ, subst, ◌+◌, ◌*◌, ◌<◌, ◌≤◌, Bool, true, false, not, ◌&&◌, ◌||◌, List, [], ◌∷◌, ◌++◌, map, length, refl, sym, ap, ◌∙◌, inl, inr, arith, eq-eqb}
use Rattle.std.specs.Prelude.{◌==◌, All, flat_map}
use Rattle.std.specs.List.{list_all, AllByRecursion}
use Rattle.std.proofs.lemmas.Bool.{cases_eq, ne_eqb}
use Rattle.std.proofs.lemmas.List.{map-append}
use Rattle.std.proofs.lemmas.List.Elements.{All-weaker, All-head, recursion_from_All, All-from_recursion}
use Rattle.tt_list_laws.specs.Words.{each_two}
use Rattle.tt_list_laws.proofs.All.{list_all-same}
use Rattle.tt_list_laws.proofs.Below.{all_pass}
use Rattle.tt_list_laws.proofs.Members.{each_two-of_map}
use Rattle.tt_list_laws.proofs.Twos.{neither, each_two-same, list_all-both}
use Rattle.tt_leaf_rules.specs.Claims.{Target, RoomCapacity, WorkingDays, Compactness, Stability, targets_of, claimed}
use Rattle.tt_leaf_rules.specs.Inner.NumberSet.{marked, are_new, place, places_of, IsPlaced}
use Rattle.tt_leaf.specs.Ranges.{AreBelow, IsClaimOf}
use Rattle.tt_leaf_rules.specs.Tests.{claims_once, same_target}
use Rattle.tt_instance.specs.Problem.{Problem}
use Rattle.tt_leaf.specs.declared.leaf.Claim.{Claim}
use Rattle.tt_leaf.specs.declared.leaf.Claim.TheVariants.{Capacity, Days, Compact, Stable, Prices, Stacked}

-- if nothing is marked, numbers that differ are new
pub new_at_first : (marks : List Bool) (ns : List ℕ) → ((k : ℕ) → marked marks k ≡ false)
    → each_two (λ a b. not (a == b)) ns ≡ are_new marks ns
new_at_first marks ns none =
    ap (λ b. b && each_two (λ a b. not (a == b)) ns) (sym (all_pass (λ n. not (marked marks n)) ns (λ n. ap not (none n))))

-- a test of the numbers left after a number has been met
unmarked_more : (marks more : List Bool) (n : ℕ) (ns : List ℕ) → ((k : ℕ) → marked more k ≡ (marked marks k || (n == k)))
    → list_all (λ k. not (marked more k)) ns ≡ (list_all (λ k. not (marked marks k)) ns && list_all (λ k. not (n == k)) ns)
unmarked_more marks more n ns added =
    list_all-same (λ k. not (marked more k)) (λ k. not (marked marks k) && not (n == k)) ns
    (λ k. ap not (added k) ∙ neither (marked marks k) (n == k))
    ∙ list_all-both (λ k. not (marked marks k)) (λ k. not (n == k)) ns

-- one number met
pub new_then : (marks more : List Bool) (n : ℕ) (behind : List ℕ) → ((k : ℕ) → marked more k ≡ (marked marks k || (n == k)))
    → are_new marks (n ∷ behind) ≡ (not (marked marks n) && are_new more behind)
new_then marks more n behind added =
    turned (not (marked marks n)) (list_all (λ k. not (marked marks k)) behind) (list_all (λ k. not (n == k)) behind)
    (each_two (λ a b. not (a == b)) behind)
    ∙ ap (λ b. not (marked marks n) && (b && each_two (λ a b. not (a == b)) behind)) (sym (unmarked_more marks more n behind added))
  where
    turned : (a b c d : Bool) → ((a && b) && (c && d)) ≡ (a && ((b && c) && d))
    turned true true c d = refl
    turned true false c d = refl
    turned false b c d = refl

-- ---- the numbers of targets

-- four times a number plus a fixed rest is equal for two numbers exactly if they are equal
four_same : (i a b : ℕ) → (4 * a + i == 4 * b + i) ≡ (a == b)
four_same i a b = elim (cases_eq a b) [
  | inl e ↦ eq-eqb (4 * a + i) (4 * b + i) (ap (λ n. 4 * n + i) e) ∙ sym (eq-eqb a b e)
  | inr h ↦ ne_eqb (4 * a + i) (4 * b + i) (λ e. h (omega (arith, e))) ∙ sym (ne_eqb a b h)
]

four_times : (a b : ℕ) → (4 * a == 4 * b) ≡ (a == b)
four_times a b = elim (cases_eq a b) [
  | inl e ↦ eq-eqb (4 * a) (4 * b) (ap (λ n. 4 * n) e) ∙ sym (eq-eqb a b e)
  | inr h ↦ ne_eqb (4 * a) (4 * b) (λ e. h (omega (arith, e))) ∙ sym (ne_eqb a b h)
]

pub same_place : (a b : Target) → (place a == place b) ≡ same_target a b
same_place (RoomCapacity a) (RoomCapacity b) = four_times a b
same_place (RoomCapacity a) (WorkingDays b) = ne_eqb (4 * a) (4 * b + 1) (λ e. omega (arith, e))
same_place (RoomCapacity a) (Compactness b) = ne_eqb (4 * a) (4 * b + 2) (λ e. omega (arith, e))
same_place (RoomCapacity a) (Stability b) = ne_eqb (4 * a) (4 * b + 3) (λ e. omega (arith, e))
same_place (WorkingDays a) (RoomCapacity b) = ne_eqb (4 * a + 1) (4 * b) (λ e. omega (arith, e))
same_place (WorkingDays a) (WorkingDays b) = four_same 1 a b
same_place (WorkingDays a) (Compactness b) = ne_eqb (4 * a + 1) (4 * b + 2) (λ e. omega (arith, e))
same_place (WorkingDays a) (Stability b) = ne_eqb (4 * a + 1) (4 * b + 3) (λ e. omega (arith, e))
same_place (Compactness a) (RoomCapacity b) = ne_eqb (4 * a + 2) (4 * b) (λ e. omega (arith, e))
same_place (Compactness a) (WorkingDays b) = ne_eqb (4 * a + 2) (4 * b + 1) (λ e. omega (arith, e))
same_place (Compactness a) (Compactness b) = four_same 2 a b
same_place (Compactness a) (Stability b) = ne_eqb (4 * a + 2) (4 * b + 3) (λ e. omega (arith, e))
same_place (Stability a) (RoomCapacity b) = ne_eqb (4 * a + 3) (4 * b) (λ e. omega (arith, e))
same_place (Stability a) (WorkingDays b) = ne_eqb (4 * a + 3) (4 * b + 1) (λ e. omega (arith, e))
same_place (Stability a) (Compactness b) = ne_eqb (4 * a + 3) (4 * b + 2) (λ e. omega (arith, e))
same_place (Stability a) (Stability b) = four_same 3 a b

-- the numbers of all targets
places_all : (claims : List Claim) → map place (claimed claims) ≡ flat_map places_of claims
places_all [] = refl
places_all (c ∷ cs) = map-append place (targets_of c) (claimed cs) ∙ ap (λ l. places_of c ++ l) (places_all cs)

-- if nothing is marked, the targets are new exactly if no target is claimed twice
pub claims_at_first : (marks : List Bool) (claims : List Claim) → ((k : ℕ) → marked marks k ≡ false)
    → claims_once claims ≡ are_new marks (flat_map places_of claims)
claims_at_first marks claims none =
    each_two-same (λ a b. not (same_target a b)) (λ a b. not (place a == place b)) (claimed claims) (λ a b. ap not (sym (same_place a b)))
    ∙ sym (each_two-of_map (λ a b. not (a == b)) place (claimed claims))
    ∙ ap (each_two (λ a b. not (a == b))) (places_all claims)
    ∙ new_at_first marks (flat_map places_of claims) none

-- ---- a loop that meets the numbers of a list in turn

-- none of the numbers at the front had been met before
pub met_goes_on : (all new : Bool) (marks more : List Bool) (rest front behind : List ℕ) → all ≡ are_new marks rest
    → rest ≡ front ++ behind → are_new marks (front ++ behind) ≡ (new && are_new more behind) → new ≡ true → all ≡ are_new more behind
met_goes_on all new marks more rest front behind same are met e = same ∙ ap (are_new marks) are ∙ met ∙ ap (λ b. b && are_new more behind) e

-- ---- which numbers have marks

-- the first of the numbers of a claim
pub placed_first : (claim : Claim) (n : ℕ) (ns : List ℕ) → IsPlaced claim → places_of claim ≡ n ∷ ns → n < 32768
placed_first claim n ns h e = All-head (λ k. k < 32768) n ns (subst (All (λ k. k < 32768)) e h)

-- the numbers of prices
pub priced_places : (courses rooms : List (ℕ × ℕ)) → map (λ k. 4 * k.0) courses ≡ places_of (Prices courses rooms)
priced_places [] rooms = refl
priced_places (k ∷ ks) rooms = ap (λ l. 4 * k.0 ∷ l) (priced_places ks rooms)

module _ (p : Problem) (few_courses : length p.courses ≤ 2048) (few_curricula : length p.curricula ≤ 8192) where
  priced_placed : (courses rooms : List (ℕ × ℕ)) → AllByRecursion (λ c. c < length p.courses) (map (λ k. k.0) courses)
      → AllByRecursion (λ n. n < 32768) (places_of (Prices courses rooms))
  priced_placed [] rooms a = tt
  priced_placed (k ∷ ks) rooms a = (omega (arith, a.0, few_courses), priced_placed ks rooms a.1)

  placed_by_recursion : (claim : Claim) → IsClaimOf p claim → AllByRecursion (λ n. n < 32768) (places_of claim)
  placed_by_recursion (Capacity c u) h = (omega (arith, h, few_courses), tt)
  placed_by_recursion (Days c) h = (omega (arith, h, few_courses), tt)
  placed_by_recursion (Compact q) h = (omega (arith, h, few_curricula), tt)
  placed_by_recursion (Stable c) h = (omega (arith, h, few_courses), tt)
  placed_by_recursion (Prices courses rooms) h =
      priced_placed courses rooms (recursion_from_All (λ c. c < length p.courses) (map (λ k. k.0) courses) h.0.within)
  placed_by_recursion (Stacked c) h = (omega (arith, h, few_courses), tt)

  -- the targets of an instance's claims have marks
  pub each_placed : (claims : List Claim) → All (IsClaimOf p) claims → All IsPlaced claims
  each_placed claims h = All-weaker (IsClaimOf p) IsPlaced (λ claim is. All-from_recursion (λ n. n < 32768) (places_of claim)
      (placed_by_recursion claim is)) claims h

-- the courses of an instance have marks
pub courses_placed : (n : ℕ) (courses : List ℕ) → n ≤ 2048 → AreBelow n courses → AreBelow 2048 courses
courses_placed n courses at_most h = All-weaker (λ c. c < n) (λ c. c < 2048) (λ c is. omega (arith, is, at_most)) courses h
