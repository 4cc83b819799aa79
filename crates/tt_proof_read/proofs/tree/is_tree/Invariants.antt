use Rattle.std.proofs.Common.{◌≡◌, ◌+◌, ◌≤◌, drop}
use Rattle.tt_proof_read.specs.Reads.{open_after}
use Rattle.tt_proof_read.proofs.tree.is_tree.Given as goal

abbrev pub invariant-loop-node : goal.invariant-loop-node
invariant-loop-node l = (open_after 1 l.nodes ≡ open_after l.places (drop l.node-index l.nodes)) × (l.places ≤ l.node-index + 1)
