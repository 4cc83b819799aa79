use Rattle.std.proofs.lemmas.Result.{IfOk-weaker}
use Rattle.tt_proof_check.proofs.Soundness.{holds_rootless}
use Rattle.tt_proof_sum.proofs.several.sum_proofs.Goals as goal

pub returns-clause-holds : goal.returns-clause-holds
returns-clause-holds g c =
    IfOk-weaker c.sum_proofs_on.result _ _ (λ s h. holds_rootless c.args.instance.now s h) c.sum_proofs_on.ensures.holds
