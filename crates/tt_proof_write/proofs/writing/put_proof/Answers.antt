use Rattle.std.proofs.Common.{map, ap, ◌++◌, ◌∙◌, List, ℕ}
use Rattle.tt_proof_read.specs.Words.{word_text}
use Rattle.tt_proof_read.specs.declared.fault.Word.TheVariants as word
use Rattle.tt_proof_write.specs.Written.{header_pieces, node_pieces}
use Rattle.tt_proof_write.proofs.TextLaws.{all_written}
use Rattle.tt_proof_write.proofs.writing.put_proof.Goals as goal

pub returns-clause-text : goal.returns-clause-text
returns-clause-text c =
    all_written (header_pieces c.args.version c.args.bound) (map node_pieces c.args.nodes.now)
    (word_text word.End) _ _ _ _ _ c.in_ok-out.ensures.items c.in_ok-put_header.ensures c.in_ok-put_nodes.ensures.text
    (c.in_ok-put_token.ensures.ok ∙ ap (λ (t : List ℕ). c.put_nodes.new.out.items ++ t) c.text.ensures) c.in_ok-put_line_end.ensures.ok
