-- The code's tests of a leaf, from which its faults are computed. They don't define when a leaf is right: Leaves does, in plain words.
use Rattle.std.specs.Prelude.{ℕ, ◌==◌, Bool, true, false, not, ◌&&◌, List, [], ◌∷◌}
use Rattle.tt_list_laws.specs.Words.{each_two}
use Rattle.tt_instance.specs.Problem.{Problem}
use Rattle.tt_instance.specs.Courses.{conflict}
use Rattle.tt_leaf_rules.specs.Claims.{Target, RoomCapacity, WorkingDays, Compactness, Stability, claimed}
use Rattle.tt_leaf.specs.declared.leaf.Claim.{Claim}

-- The list has at least one course.
abbrev pub has_member : List ℕ → Bool
has_member [] = false
has_member (c ∷ cs) = true

-- At least one course is given, and each two of the courses conflict.
abbrev pub is_clique : Problem → List ℕ → Bool
is_clique p cs = has_member cs && each_two (conflict p) cs

-- Both targets are of the same kind and of the same course or curriculum.
abbrev pub same_target : Target → Target → Bool
same_target (RoomCapacity a) (RoomCapacity b) = a == b
same_target (WorkingDays a) (WorkingDays b) = a == b
same_target (Compactness a) (Compactness b) = a == b
same_target (Stability a) (Stability b) = a == b
same_target _ _ = false

-- No target is claimed twice.
abbrev pub claims_once : List Claim → Bool
claims_once claims = each_two (λ a b. not (same_target a b)) (claimed claims)
