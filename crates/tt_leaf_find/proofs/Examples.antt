-- Best claims and prices on small instances, evaluated by the definitions.
use Rattle.std.proofs.Common.{◌≡◌, List, [], ◌∷◌, Some, None, refl, codes}
use Rattle.tt_instance.proofs.Examples.{course, room, week, gap, wide}
use Rattle.tt_instance.specs.Problem.{Problem}
use Rattle.tt_path.specs.declared.facts.Fact.{Fact}
use Rattle.tt_path.proofs.Examples.{yes}
use Rattle.tt_leaf_rules.specs.Faults.{fault_of}
use Rattle.tt_leaf.specs.declared.leaf.Bound.TheVariants.{AtLeast, Nothing}
use Rattle.tt_leaf.specs.declared.leaf.Claim.TheVariants.{Capacity, Days, Compact, Stacked}
use Rattle.tt_leaf_rules.specs.declared.fault.RuleFault.TheVariants.{TooCheap, NoBound}
use Rattle.tt_leaf_rules.proofs.Examples.{when}
use Rattle.tt_leaf_find.specs.Best.{kth_smallest, best_claims, stacked_claims, best_leaf, stacked_leaf}

-- ---- prices

second_of_three : kth_smallest 2 (7 ∷ 3 ∷ 5 ∷ []) ≡ Some 5
second_of_three = refl

second_of_equals : kth_smallest 2 (3 ∷ 7 ∷ 3 ∷ []) ≡ Some 3
second_of_equals = refl

greatest_of_few : kth_smallest 9 (7 ∷ 3 ∷ []) ≡ Some 7
greatest_of_few = refl

no_lectures : kth_smallest 0 (7 ∷ 3 ∷ []) ≡ None
no_lectures = refl

no_periods : kth_smallest 3 [] ≡ None
no_periods = refl

-- ---- claims

seats_of_b : best_claims gap [] ≡ Capacity 1 1 ∷ []
seats_of_b = refl

one : fault_of gap [] (AtLeast 1) (best_leaf gap []) ≡ None
one = refl

not_two : fault_of gap [] (AtLeast 2) (best_leaf gap []) ≡ Some TooCheap
not_two = refl

not_none : fault_of gap [] Nothing (best_leaf gap []) ≡ Some NoBound
not_none = refl

-- course a in the first period, course b in the third
abbrev outside : List Fact
outside = yes (when 0 0) ∷ yes (when 1 2) ∷ []

seats_and_isolation : best_claims gap outside ≡ Capacity 1 1 ∷ Compact 0 ∷ []
seats_and_isolation = refl

days : best_claims wide [] ≡ Days 0 ∷ []
days = refl

-- two days of two periods
abbrev two_days : Problem
two_days = week 2 2 (course (codes "a") (codes "t1") 2 2 10 ∷ []) (room (codes "R") 11 ∷ []) []

-- both lectures pinned to the first day, for which a claim of Days has no value
abbrev one_day : List Fact
one_day = yes (when 0 0) ∷ yes (when 0 1) ∷ []

no_days : best_claims two_days one_day ≡ []
no_days = refl

stacked : stacked_claims two_days one_day ≡ Stacked 0 ∷ []
stacked = refl

five : fault_of two_days one_day (AtLeast 5) (stacked_leaf two_days one_day) ≡ None
five = refl
