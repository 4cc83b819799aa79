use Rattle.std.proofs.Common.{reverse}
use Rattle.tt_proof_write.proofs.DepthLaws.{KeepsDepths}
use Rattle.tt_proof_write.proofs.depth.is_shallow.Given as goal

abbrev pub invariant-loop-node : goal.invariant-loop-node
invariant-loop-node l = KeepsDepths l.nodes l.node-index l.depth (reverse l.pending.items)
