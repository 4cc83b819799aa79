use Rattle.tt_proof_write.specs.Written.{node_pieces}
use Rattle.tt_proof_write.proofs.ByteLaws.{lines_counted}
use Rattle.tt_proof_write.proofs.bytes.nodes_bytes.Goals as goal

pub returns : goal.returns
returns c = lines_counted node_pieces c.args.nodes.now c.loop-node.node-index c.loop-node.total c.loop-node.invariant c.loop-node-test.false
