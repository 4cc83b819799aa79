use Rattle.tt_proof_write.proofs.ByteLaws.{node_counted}
use Rattle.tt_proof_write.proofs.bytes.node_bytes.Goals as goal

pub returns : goal.returns
returns c = node_counted c.args.node.now c.node_rest_bytes.result c.saturating_add.result c.node_rest_bytes.ensures c.saturating_add.ensures
