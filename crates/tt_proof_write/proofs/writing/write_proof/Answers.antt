use Rattle.std.proofs.Common.{rules}
use Rattle.tt_proof_write.proofs.AgainLaws.{proof_again}
use Rattle.tt_proof_write.proofs.writing.write_proof.Goals as goal

pub returns-clause-again : goal.returns-clause-again
returns-clause-again c =
    λ p tree of each. proof_again p c.args.version c.args.bound c.args.nodes.now tree c.in_ok-put_proof.field-0.items c.requires
    c.in_ok-put_proof.ensures.narrow of each (search rules)
