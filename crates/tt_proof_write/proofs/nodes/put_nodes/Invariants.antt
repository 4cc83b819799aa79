use Rattle.std.proofs.Common.{◌≡◌, ◌++◌, take, All}
use Rattle.std.specs.List.{flat_map}
use Rattle.tt_text.specs.Lines.{line_text}
use Rattle.tt_proof_write.specs.Inner.Numbers.{IsNarrowNode}
use Rattle.tt_proof_write.specs.Written.{node_pieces}
use Rattle.tt_proof_write.proofs.nodes.put_nodes.Given as goal

abbrev pub invariant-loop-node : goal.invariant-loop-node
invariant-loop-node l = record {
  text : l.out.items ≡ l.initial.out.items ++ flat_map (λ n. line_text (node_pieces n)) (take l.node-index l.nodes);
  narrow : All IsNarrowNode (take l.node-index l.nodes);
}
