use Rattle.tt_text.specs.Lines.{line_text}
use Rattle.tt_proof_write.specs.Inner.Numbers.{IsNarrowNode}
use Rattle.tt_proof_write.specs.Written.{node_pieces}
use Rattle.tt_proof_write.proofs.TextLaws.{lines_written, one_more}
use Rattle.tt_proof_write.proofs.nodes.put_nodes.Goals as goal
use Rattle.tt_list_laws.proofs.Beginnings.{All_more}

pub loop-node-preserved : goal.loop-node-preserved
loop-node-preserved c = record {
  text = one_more (λ n. line_text (node_pieces n)) c.args.nodes.now c.loop-node.node-index c.node-item.result c.node-item.result
      c.args.out.now.items c.loop-node.out.items c.put_node.new.out.items c.loop-node-test.true c.node-item.is
      c.loop-node.invariant.text c.in_ok-put_node.ensures.text;
  narrow = All_more IsNarrowNode c.args.nodes.now c.loop-node.node-index c.node-item.result c.node-item.result c.loop-node-test.true
      c.node-item.is c.loop-node.invariant.narrow c.in_ok-put_node.ensures.narrow;
}

pub returns-clause-text : goal.returns-clause-text
returns-clause-text c = lines_written node_pieces c.args.nodes.now c.loop-node.node-index c.args.out.now.items c.loop-node.out.items
    c.loop-node.invariant.text c.loop-node-test.false
