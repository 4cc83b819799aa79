-- Paths of facts on small instances, evaluated by the definitions.
use Rattle.std.proofs.Common.{◌≡◌, ℕ, true, false, [], ◌∷◌, Some, None, refl}
use Rattle.tt_instance.specs.Cells.{slot}
use Rattle.tt_instance.proofs.Examples.{at, mini, gap}
use Rattle.tt_path.specs.Facts.{has_fact}
use Rattle.tt_path.specs.Live.{is_dead, live_period, live_day, least_excess, pinned, pinned_room, pinned_periods}
use Rattle.tt_path.specs.declared.facts.Who.{Who}
use Rattle.tt_path.specs.declared.facts.Who.TheVariants.{Course, Curriculum}
use Rattle.tt_path.specs.declared.facts.Pattern.{Pattern}
use Rattle.tt_path.specs.declared.facts.Fact.{Fact}

-- a course or a curriculum on the first day in this period
abbrev pub first_day : Who → ℕ → Pattern
first_day who s = record { who = who; room = None; day = Some 0; period = Some s }

abbrev pub anywhere : Who → Pattern
anywhere who = record { who = who; room = None; day = None; period = None }

abbrev pub yes : Pattern → Fact
yes g = record { pattern = g; holds = true }

abbrev pub no : Pattern → Fact
no g = record { pattern = g; holds = false }

-- -- a and b, members of one curriculum, and three periods; neither can be taught in the second

-- no course of the curriculum in the first period
abbrev pub not_first : Fact
not_first = no (first_day (Curriculum 0) 0)

-- a has an entry
abbrev pub a_is_taught : Fact
a_is_taught = yes (anywhere (Course 0))

-- the entry of a is in the first period
abbrev pub a_is_first : Fact
a_is_first = yes (first_day (Course 0) 0)

a_takes_the_third : is_dead gap (not_first ∷ a_is_taught ∷ []) (at 1 0 0 2) ≡ true
a_takes_the_third = refl

where_a_is_live : is_dead gap (not_first ∷ a_is_taught ∷ []) (at 0 0 0 2) ≡ false
where_a_is_live = refl

b_in_the_third : is_dead gap (not_first ∷ []) (at 1 0 0 2) ≡ false
b_in_the_third = refl

b_in_the_first : is_dead gap (not_first ∷ []) (at 1 0 0 0) ≡ true
b_in_the_first = refl

no_fact_third : is_dead gap [] (at 1 0 0 2) ≡ false
no_fact_third = refl

no_fact_first : is_dead gap [] (at 1 0 0 0) ≡ false
no_fact_first = refl

unavailable_second : is_dead gap [] (at 1 0 0 1) ≡ true
unavailable_second = refl

a_takes_the_first : is_dead gap (a_is_first ∷ []) (at 1 0 0 0) ≡ true
a_takes_the_first = refl

b_has_the_third : is_dead gap (a_is_first ∷ []) (at 1 0 0 2) ≡ false
b_has_the_third = refl

-- ---- live periods and days, and the least excess

live_third : live_period gap (a_is_first ∷ []) 1 (slot 0 2) ≡ true
live_third = refl

not_live_first : live_period gap (a_is_first ∷ []) 1 (slot 0 0) ≡ false
not_live_first = refl

live_today : live_day gap (a_is_first ∷ []) 1 0 ≡ true
live_today = refl

-- no period is left for course b
not_live_today : live_day gap (not_first ∷ a_is_taught ∷ []) 1 0 ≡ false
not_live_today = refl

one_seat_short : least_excess gap [] 1 (slot 0 0) ≡ Some 1
one_seat_short = refl

seats_for_all : least_excess gap [] 0 (slot 0 0) ≡ Some 0
seats_for_all = refl

nothing_live : least_excess gap (a_is_first ∷ []) 1 (slot 0 0) ≡ None
nothing_live = refl

-- -- pinned periods

pinned_course : pinned mini (a_is_first ∷ []) (Course 0) (slot 0 0) ≡ true
pinned_course = refl

-- a fact about a member is about its curriculum, and not about the other member
pinned_curriculum : pinned mini (a_is_first ∷ []) (Curriculum 0) (slot 0 0) ≡ true
pinned_curriculum = refl

not_the_other : pinned mini (a_is_first ∷ []) (Course 1) (slot 0 0) ≡ false
not_the_other = refl

-- a fact about a curriculum is about no course
not_a_member : pinned mini (yes (first_day (Curriculum 0) 0) ∷ []) (Course 0) (slot 0 0) ≡ false
not_a_member = refl

no_period_given : pinned mini (a_is_taught ∷ []) (Course 0) (slot 0 0) ≡ false
no_period_given = refl

pinned_once : pinned_periods mini (a_is_first ∷ a_is_first ∷ []) (Course 0) ≡ 1
pinned_once = refl

no_room_given : pinned_room mini (a_is_first ∷ []) 0 0 ≡ false
no_room_given = refl

-- -- the facts on the path

on_the_path : has_fact (not_first ∷ a_is_first ∷ []) (first_day (Course 0) 0) true ≡ true
on_the_path = refl

another_answer : has_fact (not_first ∷ a_is_first ∷ []) (first_day (Course 0) 0) false ≡ false
another_answer = refl

another_period : has_fact (not_first ∷ a_is_first ∷ []) (first_day (Course 0) 1) true ≡ false
another_period = refl

-- a pattern that gives less isn't the same pattern
less_given : has_fact (a_is_first ∷ []) (anywhere (Course 0)) true ≡ false
less_given = refl
