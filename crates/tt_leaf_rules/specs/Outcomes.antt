-- The result of checking a leaf, and the value of a leaf's claims.
use Rattle.std.specs.Prelude.{◌≡◌, ℕ, true, List, Option, Some, None, Result, Ok, Err, ⊤}
use Rattle.tt_instance.specs.Problem.{Problem}
use Rattle.tt_path.specs.declared.facts.Fact.{Fact}
use Rattle.tt_leaf_rules.specs.Claims.{total_of}
use Rattle.tt_leaf_rules.specs.Tests.{claims_once}
use Rattle.tt_leaf.specs.declared.leaf.Leaf.{Leaf}
use Rattle.tt_leaf.specs.declared.leaf.Leaf.TheVariants.{Empty, Many, Clique, Slots, Cost}
use Rattle.tt_leaf_rules.specs.declared.fault.RuleFault.{RuleFault}

-- The fault as an error.
abbrev pub outcome : Option RuleFault → Result (Unit {0}) RuleFault
outcome None = Ok tt
outcome (Some f) = Err f

-- The total value of the claims of the leaf.
abbrev pub leaf_total : Problem → List Fact → Leaf → ℕ
leaf_total p path (Empty g) = 0
leaf_total p path (Many c) = 0
leaf_total p path (Clique cs) = 0
leaf_total p path (Slots cs) = 0
leaf_total p path (Cost claims) = total_of p path claims

-- The leaf claims no target twice.
abbrev pub IsClaimedOnce : Leaf → Type 0
IsClaimedOnce (Empty g) = ⊤
IsClaimedOnce (Many c) = ⊤
IsClaimedOnce (Clique cs) = ⊤
IsClaimedOnce (Slots cs) = ⊤
IsClaimedOnce (Cost claims) = claims_once claims ≡ true
