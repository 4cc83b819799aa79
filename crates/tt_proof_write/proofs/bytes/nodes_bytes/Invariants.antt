use Rattle.std.proofs.Common.{◌≡◌, ◌+◌, length, take}
use Rattle.std.specs.List.{flat_map}
use Rattle.tt_text.specs.Lines.{line_text}
use Rattle.tt_proof_write.specs.Inner.Bytes.{clipped}
use Rattle.tt_proof_write.specs.Written.{node_pieces}
use Rattle.tt_proof_write.proofs.bytes.nodes_bytes.Given as goal

abbrev pub invariant-loop-node : goal.invariant-loop-node
invariant-loop-node l = l.total ≡ clipped (0 + length (flat_map (λ n. line_text (node_pieces n)) (take l.node-index l.nodes)))
