use Rattle.std.proofs.Common.{ap, ◌++◌, ◌∙◌, List, ℕ}
use Rattle.std.proofs.lemmas.Result.{IfOk-equal}
use Rattle.tt_proof_write.specs.Written.{node_word, node_rest}
use Rattle.tt_proof_write.proofs.TextLaws.{line_written}
use Rattle.tt_proof_write.proofs.nodes.put_node.Goals as goal

pub returns-clause-text : goal.returns-clause-text
returns-clause-text c =
    IfOk-equal c.put_line_end.result _ _ _ c.put_line_end.ensures.ok
    (line_written (node_word c.args.node.now) c.args.out.now.items c.put_token.new.out.items c.put_node_rest.new.out.items
    (node_rest c.args.node.now) (c.in_ok-put_token.ensures.ok ∙ ap (λ (t : List ℕ). c.args.out.now.items ++ t) c.node_word.ensures)
    c.in_ok-put_node_rest.ensures.text)
