-- The nodes of a proof have the numbers of the instance.
use Rattle.std.proofs.Common.{ℕ}
use Rattle.tt_instance.specs.Problem.{Problem}
use Rattle.tt_proof_read.specs.Spelling.{IsNode}
use Rattle.tt_proof_read.specs.declared.node.Node.{Node}
use Rattle.tt_proof_read.specs.declared.node.Node.TheVariants.{Split, Leaf}
use Rattle.tt_proof_read.proofs.LeafParts.{leaf_parts}
use Rattle.tt_proof_check.specs.Nodes.{IsNodeOf}

pub node_numbers : (p : Problem) (v : ℕ) (n : Node) → IsNode p v n → IsNodeOf p n
node_numbers p v (Split g) h = h
node_numbers p v (Leaf leaf) h = (leaf_parts p v leaf h).0
