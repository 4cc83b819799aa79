-- The leaf of the claims of positive value.
use Rattle.std.specs.Prelude.{ℕ, min, nat_lt, nat_le, ◌&&◌, Bool, true, false, List, [], ◌∷◌, ◌++◌, length, map, flat_map, filter, Option, Some, None, count_by}
use Rattle.std.specs.List.{find, filter_map}
use Rattle.tt_instance.specs.Problem.{Problem}
use Rattle.tt_instance.specs.Cells.{all_courses, all_curricula, all_slots}
use Rattle.tt_instance.specs.Courses.{lectures}
use Rattle.tt_path.specs.Live.{least_excess}
use Rattle.tt_path.specs.declared.facts.Fact.{Fact}
use Rattle.tt_leaf_rules.specs.Claims.{value_of}
use Rattle.tt_leaf.specs.declared.leaf.Claim.{Claim}
use Rattle.tt_leaf.specs.declared.leaf.Claim.TheVariants.{Capacity, Days, Compact, Stable, Stacked}
use Rattle.tt_leaf.specs.declared.leaf.Leaf.{Leaf}
use Rattle.tt_leaf.specs.declared.leaf.Leaf.TheVariants.{Cost}

-- ---- prices

-- Fewer than k of the numbers are smaller than n, and at least k are at most n.
abbrev pub is_kth : List ℕ → ℕ → ℕ → Bool
is_kth ns k n = nat_lt (count_by (λ m. nat_lt m n) ns) k && nat_le k (count_by (λ m. nat_le m n) ns)

-- The k-th smallest, counted from 1, or the greatest if there are fewer than k numbers; none if k is 0 or there are no numbers.
abbrev pub kth_smallest : ℕ → List ℕ → Option ℕ
kth_smallest k ns = find (is_kth ns (min k (length ns))) ns

-- The least excesses of the course's live periods, in the order of the week.
abbrev pub least_excesses : Problem → List Fact → ℕ → List ℕ
least_excesses p path c = filter_map (least_excess p path c) (all_slots p)

-- The price of a course with l lectures: the l-th smallest of its least excesses.
abbrev pub price_of : Problem → List Fact → ℕ → Option ℕ
price_of p path c = kth_smallest (lectures p c) (least_excesses p path c)

-- ---- claims

-- The claim of room capacity for a course at a price; no claim without a price.
abbrev pub at_price : ℕ → Option ℕ → List Claim
at_price c None = []
at_price c (Some u) = Capacity c u ∷ []

-- The claims of room capacity; a course without lectures or without a live period has none.
abbrev pub capacity_claims : Problem → List Fact → List ℕ → List Claim
capacity_claims p path courses = flat_map (λ c. at_price c (price_of p path c)) courses

-- The claims of positive value.
abbrev pub worth : Problem → List Fact → List Claim → List Claim
worth p path claims = filter (λ k. nat_lt 0 (value_of p path k)) claims

-- The claims, kind by kind, and by number within a kind; the claims of working days are given.
abbrev pub claims_with : (ℕ → Claim) → Problem → List Fact → List Claim
claims_with days p path =
    worth p path (capacity_claims p path (all_courses p)) ++ worth p path (map days (all_courses p))
    ++ worth p path (map Compact (all_curricula p)) ++ worth p path (map Stable (all_courses p))

-- The claims on working days: `Stacked` or `Days`.
abbrev pub days_of : Bool → ℕ → Claim
days_of true = Stacked
days_of false = Days

-- The claims of positive value, with `Days` for working days.
abbrev pub best_claims : Problem → List Fact → List Claim
best_claims p path = claims_with Days p path

-- The claims, with `Stacked` instead of `Days`.
abbrev pub stacked_claims : Problem → List Fact → List Claim
stacked_claims p path = claims_with Stacked p path

-- The cost leaf of all claims of positive value, with `Days` for working days.
abbrev pub best_leaf : Problem → List Fact → Leaf
best_leaf p path = Cost (best_claims p path)

-- The cost leaf of all claims of positive value, with `Stacked` for working days.
abbrev pub stacked_leaf : Problem → List Fact → Leaf
stacked_leaf p path = Cost (stacked_claims p path)
