use Rattle.std.proofs.lemmas.Result.{IfOk-weaker}
use Rattle.tt_proof_check.proofs.Soundness.{holds_rootless}
use Rattle.tt_proof_check.proofs.stream.check_proof_with.Goals as goal

pub returns-clause-holds : goal.returns-clause-holds
returns-clause-holds g c =
    IfOk-weaker c.check_proof_on.result _ _ (λ b h. holds_rootless c.args.instance.now b h) c.check_proof_on.ensures.holds
