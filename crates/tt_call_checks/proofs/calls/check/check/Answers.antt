use Rattle.std.proofs.Common.{Err, ap}
use Rattle.std.proofs.lemmas.Result.{err_from_is_err_and}
use Rattle.tt_proof_check.proofs.TextFaults.{err_same}
use Rattle.tt_call_answers.specs.declared.fault.AppFault.TheVariants as fault
use Rattle.tt_call_answers.specs.Refusals.{is_failed_read}
use Rattle.tt_call_answers.specs.FaultMaps.{fault_from_certify}
use Rattle.tt_call_answers.proofs.FailedReads.{read_certified, passed, certify_read}
use Rattle.tt_call_answers.proofs.ReportedMemory.{lower_certify}
use Rattle.tt_call_checks.proofs.Answering.{explains, yes_reported, yes_is, not_broken, yes_same}
use Rattle.tt_call_checks.proofs.calls.check.check.Goals as goal

pub returns-in_err-cost-clause-fault : goal.returns-in_err-cost-clause-fault
returns-in_err-cost-clause-fault g c =
    let e = err_from_is_err_and c.from_residual.result c.from_residual.ensures.1 in
    rw (e.1, e.2)
    (explains c.args.instance.now c.args.solution.now (g.R.Source.remaining c.args.proof.now) c.in_err-cost.field-0.0
    c.in_err-cost.ensures.fault (λ is. c.in_err-cost.ensures.read_last (ap (λ s. Err s) is)))

pub returns-in_err-cost-clause-yes : goal.returns-in_err-cost-clause-yes
returns-in_err-cost-clause-yes g c =
    let e = err_from_is_err_and c.from_residual.result c.from_residual.ensures.1 in
    λ n b bytes known h. rw (e.1, e.2) (yes_reported c.in_err-cost.field-0.0 n b _ (c.in_err-cost.ensures.exactly n b bytes known) h)

pub returns-in_ok-yes_answer-in-Yes-clause-yes : goal.returns-in_ok-yes_answer-in-Yes-clause-yes
returns-in_ok-yes_answer-in-Yes-clause-yes g c =
    λ n b bytes known h.
    yes_same c.in_ok-yes_answer-in-Yes.field-0 c.in-Yes.cost c.in-Yes.bound n b
    (yes_is _ _ _ _ _ c.in-Yes.is ((c.in_ok-cost.ensures.exactly n b bytes known).1 h)) c.in_ok-yes_answer-in-Yes.ensures

pub returns-in_ok-broken_answer-in-Breaks-clause-yes : goal.returns-in_ok-broken_answer-in-Breaks-clause-yes
returns-in_ok-broken_answer-in-Breaks-clause-yes g c =
    λ n b bytes known h. absurd (not_broken _ _ _ _ c.in-Breaks.is ((c.in_ok-cost.ensures.exactly n b bytes known).1 h))

pub returns-in_err-cost-clause-up_to_failed_read : goal.returns-in_err-cost-clause-up_to_failed_read
returns-in_err-cost-clause-up_to_failed_read g c =
    λ reported. c.in_err-cost.ensures.up_to_failed_read
    (ap (λ f. Err f)
    (read_certified c.in_err-cost.field-0.0 (err_same c.from_residual.result _ fault.ReadFailed c.from_residual.ensures.1 reported)))

pub returns-in_err-cost-clause-lower : goal.returns-in_err-cost-clause-lower
returns-in_err-cost-clause-lower g c =
    let e = err_from_is_err_and c.from_residual.result c.from_residual.ensures.1 in
    rw (e.1, e.2) (lower_certify c.in_err-cost.field-0.0 c.in_err-cost.ensures.lower)

pub returns-in_err-cost-clause-failed : goal.returns-in_err-cost-clause-failed
returns-in_err-cost-clause-failed g c =
    let f = c.in_err-cost.field-0.0 in
    passed c.from_residual.result (fault_from_certify f) is_failed_read _ _ _ c.from_residual.ensures.1
    (certify_read f) c.in_err-cost.ensures.failed
