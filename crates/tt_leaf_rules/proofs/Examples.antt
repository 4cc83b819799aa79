-- Leaves on small instances, evaluated by the definitions.
use Rattle.std.proofs.Common.{◌≡◌, ℕ, List, [], ◌∷◌, Some, None, refl, codes}
use Rattle.tt_instance.specs.Problem.{Problem}
use Rattle.tt_instance.proofs.Examples.{course, room, week, mini, gap, wide, same, apart}
use Rattle.tt_path.specs.declared.facts.Who.TheVariants.{Course}
use Rattle.tt_path.specs.declared.facts.Pattern.{Pattern}
use Rattle.tt_path.specs.declared.facts.Fact.{Fact}
use Rattle.tt_path.proofs.Examples.{first_day, yes, not_first, a_is_taught}
use Rattle.tt_leaf_rules.specs.Claims.{value_of}
use Rattle.tt_leaf_rules.specs.Faults.{fault_of}
use Rattle.tt_leaf.specs.declared.leaf.Bound.TheVariants.{AtLeast, Nothing}
use Rattle.tt_leaf.specs.declared.leaf.Claim.TheVariants.{Capacity, Days, Compact, Prices, Stacked}
use Rattle.tt_leaf.specs.declared.leaf.Leaf.TheVariants.{Empty, Many, Clique, Slots, Cost}
use Rattle.tt_leaf_rules.specs.declared.fault.RuleFault.TheVariants.{NotOnPath, StillAlive, NotTooMany, NotAClique, EnoughRoom, ClaimedTwice, TooCheap, NoBound, BadPrice}

-- the course on the first day in this period
abbrev pub when : ℕ → ℕ → Pattern
when c s = first_day (Course c) s

-- -- leaves of an empty path

one_price : fault_of mini [] (AtLeast 1) (Cost (Capacity 1 1 ∷ [])) ≡ None
one_price = refl

one_price_twice : fault_of mini [] (AtLeast 2) (Cost (Capacity 1 1 ∷ Capacity 1 1 ∷ [])) ≡ Some ClaimedTwice
one_price_twice = refl

few_days : fault_of wide [] (AtLeast 5) (Cost (Days 0 ∷ [])) ≡ None
few_days = refl

too_few_days : fault_of wide [] (AtLeast 6) (Cost (Days 0 ∷ [])) ≡ Some TooCheap
too_few_days = refl

no_bound : fault_of wide [] Nothing (Cost (Days 0 ∷ [])) ≡ Some NoBound
no_bound = refl

one_teacher : fault_of same [] Nothing (Clique (0 ∷ 1 ∷ [])) ≡ None
one_teacher = refl

one_room : fault_of apart [] Nothing (Slots (0 ∷ 1 ∷ [])) ≡ None
one_room = refl

two_teachers : fault_of apart [] Nothing (Clique (0 ∷ 1 ∷ [])) ≡ Some NotAClique
two_teachers = refl

one_course_twice : fault_of apart [] Nothing (Slots (0 ∷ 0 ∷ [])) ≡ Some ClaimedTwice
one_course_twice = refl

no_slots : fault_of apart [] Nothing (Slots []) ≡ Some EnoughRoom
no_slots = refl

no_clique : fault_of apart [] Nothing (Clique []) ≡ Some NotAClique
no_clique = refl

off_the_path : fault_of mini [] (AtLeast 1) (Empty (when 0 0)) ≡ Some NotOnPath
off_the_path = refl

not_too_many : fault_of mini [] (AtLeast 1) (Many 0) ≡ Some NotTooMany
not_too_many = refl

enough_room : fault_of mini [] (AtLeast 1) (Clique (0 ∷ [])) ≡ Some EnoughRoom
enough_room = refl

still_alive : fault_of mini (yes (when 0 0) ∷ []) (AtLeast 1) (Empty (when 0 0)) ≡ Some StillAlive
still_alive = refl

nothing_claimed : fault_of mini [] (AtLeast 0) (Cost []) ≡ None
nothing_claimed = refl

-- -- course a in the first period, course b in the third

abbrev outside : List Fact
outside = yes (when 0 0) ∷ yes (when 1 2) ∷ []

seats : value_of gap outside (Capacity 1 1) ≡ 1
seats = refl

isolation : value_of gap outside (Compact 0) ≡ 4
isolation = refl

five : fault_of gap outside (AtLeast 5) (Cost (Capacity 1 1 ∷ Compact 0 ∷ [])) ≡ None
five = refl

not_six : fault_of gap outside (AtLeast 6) (Cost (Capacity 1 1 ∷ Compact 0 ∷ [])) ≡ Some TooCheap
not_six = refl

-- no course of the curriculum in the first period, and a has an entry
no_period_for_b : fault_of gap (not_first ∷ a_is_taught ∷ []) Nothing (Clique (1 ∷ [])) ≡ None
no_period_for_b = refl

-- ---- claims of version 2

-- one period, two courses, a room with enough seats for each course and a room without
abbrev prices : Problem
prices = week 1 1 (course (codes "x") (codes "t1") 1 1 10 ∷ course (codes "y") (codes "t2") 1 1 10 ∷ [])
    (room (codes "A") 10 ∷ room (codes "B") 5 ∷ []) []

covered : fault_of prices [] (AtLeast 5) (Cost (Prices ((0, 5) ∷ (1, 5) ∷ []) ((0, 5) ∷ []) ∷ [])) ≡ None
covered = refl

not_covered : fault_of prices [] (AtLeast 5) (Cost (Prices ((0, 5) ∷ (1, 5) ∷ []) ((0, 4) ∷ []) ∷ [])) ≡ Some BadPrice
not_covered = refl

-- the second room isn't listed, and its excess is 5
not_listed : fault_of prices [] (AtLeast 6) (Cost (Prices ((0, 6) ∷ (1, 6) ∷ []) ((0, 6) ∷ []) ∷ [])) ≡ Some BadPrice
not_listed = refl

priced_and_claimed : fault_of prices [] (AtLeast 5) (Cost (Prices ((0, 5) ∷ []) [] ∷ Capacity 0 1 ∷ [])) ≡ Some ClaimedTwice
priced_and_claimed = refl

stacked : fault_of wide [] (AtLeast 5) (Cost (Stacked 0 ∷ [])) ≡ None
stacked = refl

stacked_and_claimed : fault_of wide [] (AtLeast 5) (Cost (Stacked 0 ∷ Days 0 ∷ [])) ≡ Some ClaimedTwice
stacked_and_claimed = refl

-- two days of two periods, and both lectures pinned to the first day
abbrev two_days : Problem
two_days = week 2 2 (course (codes "a") (codes "t1") 2 2 10 ∷ []) (room (codes "R") 11 ∷ []) []

one_day_lost : value_of two_days (yes (when 0 0) ∷ yes (when 0 1) ∷ []) (Stacked 0) ≡ 5
one_day_lost = refl

no_day_seen : value_of two_days (yes (when 0 0) ∷ yes (when 0 1) ∷ []) (Days 0) ≡ 0
no_day_seen = refl
