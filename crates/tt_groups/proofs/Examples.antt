-- Groups of a small instance, with values computed by the definitions.
use Rattle.std.proofs.Common.{◌≡◌, ℕ, ◌+◌, true, false, List, [], ◌∷◌, codes, refl}
use Rattle.tt_instance.specs.Problem.{Course, Problem}
use Rattle.tt_instance.specs.declared.cell.Cell.{Cell}
use Rattle.tt_rules.specs.Hard.{lectures_off, conflicts_count, availability_count}
use Rattle.tt_groups.specs.Group.{Group, group_cost, concerns, entries_for}
use Rattle.tt_groups.specs.Plans.{week_of, is_single, further, base_cost, spent}

abbrev course : List ℕ → List ℕ → ℕ → ℕ → Course
course id teacher l w = record { id = id; teacher = teacher; lectures = l; min_days = w; students = 1 }

-- an entry by course, day and period
abbrev at : ℕ → ℕ → ℕ → Cell
at c d s = record { course = c; room = 0; day = d; period = s }

-- two days of three periods; a and b are of one curriculum, b and c have one teacher; a needs three days, but has only two lectures
abbrev three : Problem
three = record {
  name = [];
  days = 2;
  periods = 3;
  courses = course (codes "a") (codes "t1") 2 3 ∷ course (codes "b") (codes "t2") 1 1 ∷ course (codes "c") (codes "t2") 1 1 ∷ [];
  rooms = record { id = codes "R"; capacity = 9 } ∷ [];
  curricula = record { id = codes "q"; members = 0 ∷ 1 ∷ [] } ∷ [];
  unavailabilities = record { course = 2; day = 0; period = 1 } ∷ [];
}

-- the curriculum, and the days of a
abbrev group : Group
group = record { curricula = 0 ∷ []; courses = 0 ∷ [] }

-- a on both days, b immediately after its first lecture, and c where it must not be: at the time of b, and where it is unavailable
abbrev spread : List Cell
spread = at 0 0 0 ∷ at 1 0 1 ∷ at 0 1 0 ∷ at 2 0 1 ∷ []

-- all on one day
abbrev packed : List Cell
packed = at 0 0 0 ∷ at 0 0 1 ∷ at 1 0 2 ∷ []

a_member_is_concerned : concerns three group 1 ≡ true
a_member_is_concerned = refl

another_course_is_not_concerned : concerns three group 2 ≡ false
another_course_is_not_concerned = refl

-- violations by c are not counted
one_conflict_in_all : conflicts_count three spread ≡ 1
one_conflict_in_all = refl

no_conflict_in_the_group : conflicts_count three (entries_for three group spread) + availability_count three
    (entries_for three group spread) + lectures_off three spread 0 + lectures_off three spread 1 ≡ 0
no_conflict_in_the_group = refl

-- 2 for the second lecture of a, and 5 for its missing third day
spread_costs : group_cost three group spread ≡ 7
spread_costs = refl

-- 10 for two missing days
packed_costs : group_cost three group packed ≡ 10
packed_costs = refl

base_is_for_the_third_day : base_cost three group ≡ 5
base_is_for_the_third_day = refl

a_is_single : is_single three (week_of spread 1) 0 0 ≡ true
a_is_single = refl

-- the plan costs the same, on its first day and on both days
first_day_spread : spent three group (week_of spread) 1 ≡ 0
first_day_spread = refl

both_days_spread : base_cost three group + spent three group (week_of spread) 2 ≡ 7
both_days_spread = refl

both_days_packed : base_cost three group + spent three group (week_of packed) 2 ≡ 10
both_days_packed = refl

one_further_lecture : further three (week_of packed) 2 0 ≡ 1
one_further_lecture = refl
