-- What becomes of the faults below.
use Rattle.std.specs.Prelude.{◌≡◌, ◌<◌, ◌^◌, List, [], ⊤}
use Rattle.tt_text.specs.Stops.{mapped}
use Rattle.tt_text.specs.declared.stop.Stop.{Stop}
use Rattle.tt_instance.specs.Problem.{Problem}
use Rattle.tt_leaf.specs.declared.leaf.Bound.{Bound}
use Rattle.tt_proof_read.specs.Trees.{Tree, preorder}
use Rattle.tt_proof_read.specs.declared.fault.TextFault.{TextFault}
use Rattle.tt_proof_read.specs.declared.node.Node.{Node}
use Rattle.tt_proof_check.specs.Faults as checks
use Rattle.tt_proof_check.specs.Explains.{FailsAt, IsDeepAt}
use Rattle.tt_proof_check.specs.declared.fault.CheckFault.TheVariants as check
use Rattle.tt_proof_check.specs.declared.fault.NodesFault.{NodesFault}
use Rattle.tt_proof_check.specs.declared.fault.NodesFault.TheVariants as nodes
use Rattle.tt_proof_write.specs.Within.{FitsFile}
use Rattle.tt_proof_upgrade.specs.declared.fault.UpgradeFault.{UpgradeFault}
use Rattle.tt_proof_upgrade.specs.declared.fault.UpgradeFault.TheVariants.{Proof, TooLarge}

-- Why an upgrade is stopped by a fault of the reader of proofs.
abbrev pub stop_from_text : TextFault → Stop UpgradeFault
stop_from_text f = mapped Proof (checks.stop_from_text f)

-- The nodes are a tree, and the number of the wrong node has 32 bits.
abbrev pub IsOfNode : NodesFault → Type 0
IsOfNode nodes.NotATree = ⊥
IsOfNode (nodes.Rule i f) = i < 2 ^ 32
IsOfNode (nodes.TooDeep i) = i < 2 ^ 32

-- The fault of an upgrade that reports this fault of the nodes; none reports that they are not a tree.
abbrev pub IsFaultOfNode : NodesFault → UpgradeFault → Type 0
IsFaultOfNode nodes.NotATree e = ⊥
IsFaultOfNode (nodes.Rule i f) e = e ≡ Proof (check.Rule i f)
IsFaultOfNode (nodes.TooDeep i) e = e ≡ Proof (check.TooDeep i)

-- The text of the nodes in version 2 is larger than a file may be.
abbrev pub IsWriteFault : Bound → List Node → UpgradeFault → Type 0
IsWriteFault b nodes (Proof f) = ⊥
IsWriteFault b nodes TooLarge = ¬ (FitsFile 2 b nodes)

-- The first node that doesn't pass is reported.
abbrev pub IsNodesFault : Problem → Bound → List Node → UpgradeFault → Type 0
IsNodesFault p b nodes (Proof (check.Rule i f)) = (tree : Tree) × (preorder tree ≡ nodes) × FailsAt p [] b tree i f
IsNodesFault p b nodes (Proof (check.TooDeep i)) = (tree : Tree) × (preorder tree ≡ nodes) × IsDeepAt p [] b tree i
IsNodesFault p b nodes _ = ⊥

-- The fault holds no fault of memory or of a failed read: these would have stopped the upgrade.
abbrev pub HoldsNoStop : UpgradeFault → Type 0
HoldsNoStop (Proof f) = checks.HoldsNoStop f
HoldsNoStop TooLarge = ⊤
