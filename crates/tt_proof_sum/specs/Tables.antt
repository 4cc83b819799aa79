-- A table of the targets that files have claimed.
use Rattle.std.specs.Prelude.{◌≡◌, ℕ, ◌+◌, ◌<◌, ◌==◌, nat_le, Bool, not, ◌&&◌, ◌||◌, List, [], ◌∷◌, length, map, Option, Some, None, slice_index_or, if◌then◌else◌}
use Rattle.std.specs.Option.{option_or}
use Rattle.tt_list_laws.specs.Words.{has_number}
use Rattle.tt_leaf_rules.specs.Claims.{Target}
use Rattle.tt_leaf_rules.specs.Inner.NumberSet.{place}
use Rattle.tt_proof_read.specs.declared.node.Node.{Node}
use Rattle.tt_proof_read.specs.declared.node.Node.TheVariants.{Split, Leaf}
use Rattle.tt_proof_sum.specs.declared.table.Clash.{Clash}
use Rattle.tt_proof_sum.specs.declared.table.TheConstants.{PLACES}
use Rattle.tt_groups.specs.Group.{Group}
use Rattle.tt_prices_file.specs.declared.claim.PricesClaim.{PricesClaim}
use Rattle.tt_proof_sum.specs.Sums.{claimed_in, group_targets, targets_of_claim, Part, claims_of}

-- For each place of a target, the number of the file that claimed it first, 0 for none; the number of the newest file, counted from 1,
-- and 0 before the first; and the first claim of a node of that file whose target another file had claimed.
pub record State : Type 0 where
  pub owners : List ℕ
  pub proof : ℕ
  pub clash : Option Clash

-- The number of the file that owns a place, 0 for none.
abbrev pub owner : State → ℕ → ℕ
owner a k = slice_index_or a.owners k 0

-- The clash of a node that claims a place with this owner, which may be past the table, while proof q is read.
abbrev pub clash_with : Bool → ℕ → ℕ → ℕ → Option Clash
clash_with past n o q =
    if not past && ((o == 0) || (o == q)) then None else Some (record { node = n; earlier = if past then 0 else o })

-- A place past the table counts as owned by another proof.
abbrev pub clash_at : State → ℕ → ℕ → Option Clash
clash_at a n k = clash_with (nat_le PLACES k) n (owner a k) a.proof

-- The first clash of these places, each with the node that claims it.
abbrev pub first_clash : State → List (ℕ × ℕ) → Option Clash
first_clash a [] = None
first_clash a (x ∷ xs) = option_or (clash_at a x.0 x.1) (first_clash a xs)

-- The change of the table by a claim of these places, each with the node that claims it.
pub record Claims (a : State) (xs : List (ℕ × ℕ)) (b : State) : Type 0 where
  pub proof : b.proof ≡ a.proof
  pub clash : b.clash ≡ option_or a.clash (first_clash a xs)
  pub owners : (k : ℕ) → k < PLACES → owner b k ≡ (if (owner a k == 0) && has_number (map (λ x. x.1) xs) k then a.proof else owner a k)

-- The places, each with this node.
abbrev pub at_node : ℕ → List ℕ → List (ℕ × ℕ)
at_node n ks = map (λ k. (n, k)) ks

-- The targets that a node claims.
abbrev pub claims_at : Node → List Target
claims_at (Split g) = []
claims_at (Leaf leaf) = claimed_in leaf

-- The places that a node claims.
abbrev pub places_in : Node → List ℕ
places_in node = map place (claims_at node)

-- The places of a group's targets: those of its curricula, and then those of its courses.
abbrev pub group_places : Group → List ℕ
group_places g = map place (group_targets g)

-- The places of the targets of groups with prices, of an instance with n courses.
abbrev pub claim_places : ℕ → PricesClaim → List ℕ
claim_places n k = map place (targets_of_claim n k)

-- The owner of the first of these places that has an owner.
abbrev pub first_owner : State → List ℕ → Option ℕ
first_owner a [] = None
first_owner a (k ∷ ks) = if owner a k == 0 then first_owner a ks else Some (owner a k)

-- The newest file now owns these places, and nothing else has changed.
pub record Marks (a : State) (ks : List ℕ) (b : State) : Type 0 where
  pub proof : b.proof ≡ a.proof
  pub clash : b.clash ≡ a.clash
  pub owners : (k : ℕ) → k < PLACES → owner b k ≡ (if has_number ks k then a.proof else owner a k)

-- The number of the first file that claims the place, counted from n; 0 for none.
abbrev pub first_claim : ℕ → List Part → ℕ → ℕ
first_claim n [] k = 0
first_claim n (part ∷ parts) k = if has_number (map place (claims_of part)) k then n else first_claim (n + 1) parts k

-- The table after the next file has begun.
abbrev pub begun : State → State
begun a = record a { proof = a.proof + 1 }

-- The owner of each place is the first of these files that claims it, and the last of these files is the newest.
pub record IsTableOf (a : State) (parts : List Part) : Type 0 where
  pub owners : (k : ℕ) → k < PLACES → owner a k ≡ first_claim 1 parts k
  pub number : a.proof ≡ length parts
  pub free : a.clash ≡ None
