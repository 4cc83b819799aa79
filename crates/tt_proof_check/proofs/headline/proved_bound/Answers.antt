use Rattle.std.proofs.Common.{refl}
use Rattle.tt_leaf.specs.declared.leaf.Bound.TheVariants.{AtLeast}
use Rattle.std.proofs.lemmas.Result.{err_from_is_err_and}
use Rattle.tt_text.proofs.Stops.{passed_reads}
use Rattle.tt_proof_check.proofs.Certifying.{only_bound}
use Rattle.tt_proof_check.proofs.headline.proved_bound.Goals as goal

pub returns-in_err-bound-clause-failed : goal.returns-in_err-bound-clause-failed
returns-in_err-bound-clause-failed g c =
    passed_reads c.from_residual.result c.in_err-bound.field-0.0 _ _ _ c.from_residual.ensures.1 c.in_err-bound.ensures.failed refl

pub returns-in_err-bound-clause-only : goal.returns-in_err-bound-clause-only
returns-in_err-bound-clause-only g c =
    let e = err_from_is_err_and c.from_residual.result c.from_residual.ensures.1 in
    λ bytes b known h. rw (e.1, e.2) (only_bound c.in_err-bound.field-0.0 b (c.in_err-bound.ensures.only bytes (AtLeast b) known h))
