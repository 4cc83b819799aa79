use Rattle.std.proofs.Common.{map, [], ◌∷◌}
use Rattle.tt_proof_read.specs.Words.{fixed}
use Rattle.tt_proof_read.specs.declared.fault.Word.TheVariants as word
use Rattle.tt_proof_write.specs.Written.{header_pieces, node_pieces}
use Rattle.tt_proof_write.proofs.ByteLaws.{all_counted}
use Rattle.tt_proof_write.proofs.bytes.proof_bytes.Goals as goal

pub returns : goal.returns
returns c =
    all_counted (header_pieces c.args.version c.args.bound) (map node_pieces c.args.nodes.now)
    (fixed word.End ∷ []) c.header_bytes.result c.nodes_bytes.result c.token_bytes.result c.saturating_add.result
    c.header_bytes.ensures.text c.nodes_bytes.ensures
    (rw c.text.ensures at c.token_bytes.ensures) c.saturating_add.ensures
