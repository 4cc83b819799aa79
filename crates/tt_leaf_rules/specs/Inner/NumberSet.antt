-- Sets of the numbers of targets.
use Rattle.std.specs.Prelude.{ℕ, ◌+◌, ◌*◌, ◌<◌, Bool, false, not, ◌&&◌, List, map, slice_index_or, All}
use Rattle.std.specs.List.{list_all}
use Rattle.tt_list_laws.specs.Words.{are_distinct}
use Rattle.tt_leaf_rules.specs.Claims.{Target, RoomCapacity, WorkingDays, Compactness, Stability, targets_of}
use Rattle.tt_leaf.specs.declared.leaf.Claim.{Claim}
use Rattle.tt_leaf_rules.specs.declared.number_set.TheConstants.{PLACES}

-- The number is marked.
abbrev pub marked : List Bool → ℕ → Bool
marked marks n = slice_index_or marks n false

-- None of the numbers is marked, and none occurs twice.
abbrev pub are_new : List Bool → List ℕ → Bool
are_new marks ns = list_all (λ n. not (marked marks n)) ns && are_distinct ns

-- The number of a target: no two targets have the same number.
abbrev pub place : Target → ℕ
place (RoomCapacity c) = 4 * c
place (WorkingDays c) = 4 * c + 1
place (Compactness q) = 4 * q + 2
place (Stability c) = 4 * c + 3

-- The numbers of the targets that a claim claims.
abbrev pub places_of : Claim → List ℕ
places_of claim = map place (targets_of claim)

-- The numbers of the claim's targets have marks.
abbrev pub IsPlaced : Claim → Type 0
IsPlaced claim = All (λ n. n < PLACES) (places_of claim)
