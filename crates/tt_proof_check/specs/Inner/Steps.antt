-- The change of a path by one node.
use Rattle.std.specs.Prelude.{◌≡◌, ℕ, true, List, length, Some, ⊤}
use Rattle.tt_instance.specs.Problem.{Problem}
use Rattle.tt_path.specs.declared.facts.Fact.{Fact}
use Rattle.tt_path.specs.declared.path.PathFault.{PathFault}
use Rattle.tt_path.specs.declared.path.PathFault.TheVariants as path
use Rattle.tt_leaf_rules.specs.Faults.{fault_of}
use Rattle.tt_leaf_rules.specs.Leaves.{IsRight}
use Rattle.tt_leaf.specs.declared.leaf.Bound.{Bound}
use Rattle.tt_proof_read.specs.Trees.{with_fact}
use Rattle.tt_proof_read.specs.declared.node.Node.{Node}
use Rattle.tt_proof_read.specs.declared.node.Node.TheVariants.{Split, Leaf}
use Rattle.tt_proof_check.specs.declared.walk.NodeStop.{NodeStop}
use Rattle.tt_proof_check.specs.declared.walk.NodeStop.TheVariants.{Rule, TooDeep, OutOfMemory}
use Rattle.tt_proof_check.specs.Inner.Pending.{ContinuesWith}
use Rattle.tt_path.specs.declared.path.TheConstants.{MAX_FACTS}

-- below a root of so many facts, a split leads down to its first child, and a right leaf to the next place
abbrev pub Steps : Problem → ℕ → Bound → List Fact → Node → List Fact → Type 0
Steps p root b facts (Split g) next = next ≡ with_fact facts g true
Steps p root b facts (Leaf leaf) next = IsRight p facts b leaf × ContinuesWith root facts next

-- only a leaf breaks a rule, and only a split can be too deep
abbrev pub Stops : Problem → Bound → List Fact → Node → NodeStop → Type 0
Stops p b facts (Split g) (Rule f) = ⊥
Stops p b facts (Leaf leaf) (Rule f) = fault_of p facts b leaf ≡ Some f
Stops p b facts (Split g) TooDeep = length facts ≡ MAX_FACTS
Stops p b facts (Leaf leaf) TooDeep = ⊥
Stops p b facts node OutOfMemory = ⊤

-- the reason to stop if a fact was not added
abbrev pub stop_of : PathFault → NodeStop
stop_of path.TooDeep = TooDeep
stop_of path.OutOfMemory = OutOfMemory
