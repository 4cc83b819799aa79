use Rattle.std.proofs.Common.{ℕ, List, Err, refl, ap, subst, sym, ◌∙◌}
use Rattle.std.specs.Io.KnownBytes.{Appends}
use Rattle.tt_page.specs.Limits.{IsWithinLimit}
use Rattle.std.proofs.lemmas.Result.{err_from_is_err_and}
use Rattle.tt_call_answers.specs.FaultMaps.{fault_from_instance, fault_from_solution, fault_from_labels, fault_from_page}
use Rattle.tt_call_texts.specs.Paged.{IsNotPut, unproved_text}
use Rattle.tt_call_answers.specs.Refusals.{is_failed_write}
use Rattle.tt_call_answers.proofs.FailedReads.{passed, calm, instance_write, solution_write, labels_write, page_write}
use Rattle.tt_call_answers.proofs.Files.{tells_instance, tells_solution, only_memory}
use Rattle.tt_call_answers.proofs.Fitting.{names_memory}
use Rattle.tt_call_texts.proofs.PageTelling.{names_tell, plain_page_tells, page_same, output_tells, memory_not_put, weeks_there}
use Rattle.tt_call_texts.proofs.calls.page.page.Goals as goal

pub returns-in_err-instance-clause-only : goal.returns-in_err-instance-clause-only
returns-in_err-instance-clause-only g c =
    let e = err_from_is_err_and c.from_residual.result c.from_residual.ensures.1 in
    λ p t l both named there. rw (e.1, e.2)
    (memory_not_put _ _
    (only_memory c.args.instance.now c.args.solution.now p t _ both
    (tells_instance c.args.instance.now c.args.solution.now c.in_err-instance.field-0.0 c.in_err-instance.ensures.exact)))

pub returns-in_err-table-clause-only : goal.returns-in_err-table-clause-only
returns-in_err-table-clause-only g c =
    let e = err_from_is_err_and c.from_residual-in_err-table.result c.from_residual-in_err-table.ensures.1 in
    λ p t l both named there. rw (e.1, e.2)
    (memory_not_put _ _
    (only_memory c.args.instance.now c.args.solution.now p t _ both
    (tells_solution c.args.instance.now c.args.solution.now c.in_ok-instance.instance c.in_err-table.field-0.0
    c.in_ok-instance.ensures.found c.in_err-table.ensures.exact)))

pub returns-in_err-labels-clause-fault : goal.returns-in_err-labels-clause-fault
returns-in_err-labels-clause-fault g c =
    let e = err_from_is_err_and c.from_residual-in_err-labels.result c.from_residual-in_err-labels.ensures.1 in
    rw (e.1, e.2)
    (names_tell c.args.instance.now c.args.solution.now c.in_ok-instance.instance c.in_ok-table.table c.args.form
    c.in_ok-instance.ensures.found c.in_ok-table.ensures.found c.args.style.now _ _ c.in_err-labels.field-0.0
    c.in_err-labels.ensures)

pub returns-in_err-labels-clause-only : goal.returns-in_err-labels-clause-only
returns-in_err-labels-clause-only g c =
    let e = err_from_is_err_and c.from_residual-in_err-labels.result c.from_residual-in_err-labels.ensures.1 in
    λ p t l both named there. rw (e.1, e.2)
    (memory_not_put _ _
    (names_memory c.args.instance.now p c.in_ok-instance.instance c.args.form.names l c.in_err-labels.field-0.0 both.spelled
    c.in_ok-instance.ensures.found named c.in_err-labels.ensures))

pub returns-then-not-has_weeks-clause-fault : goal.returns-then-not-has_weeks-clause-fault
returns-then-not-has_weeks-clause-fault g c = record {
  problem = c.in_ok-instance.instance;
  table = c.in_ok-table.table;
  labels = c.in_ok-labels.labels;
  both = record { spelled = c.in_ok-instance.ensures.found; solved = c.in_ok-table.ensures.found };
  named = c.in_ok-labels.ensures;
  none = sym c.has_weeks.ensures ∙ c.if-not-has_weeks.true;
}

pub returns-then-not-has_weeks-clause-only : goal.returns-then-not-has_weeks-clause-only
returns-then-not-has_weeks-clause-only g c =
    λ p t l both named there. absurd
    (weeks_there c.args.instance.now p c.in_ok-instance.instance c.args.form.sheet both.spelled c.in_ok-instance.ensures.found there
    (sym c.has_weeks.ensures ∙ c.if-not-has_weeks.true))

pub page-requires-clause-shown : goal.page-requires-clause-shown
page-requires-clause-shown g c = c.shown_for-shown.ensures.courses c.in_ok-instance.instance

pub returns-in_err-page-clause-only : goal.returns-in_err-page-clause-only
returns-in_err-page-clause-only g c =
    let e = err_from_is_err_and c.from_residual-in_err-page.result c.from_residual-in_err-page.ensures.1 in
    let f = c.in_err-page.field-0.0 in
    λ p t l both named there.
    let same = c.shown_for-shown.ensures.text c.args.style.now c.in_ok-instance.instance c.in_ok-table.table c.in_ok-labels.labels
    ∙ page_same c.args.instance.now c.args.solution.now p c.in_ok-instance.instance t c.in_ok-table.table c.args.form.names l
    c.in_ok-labels.labels (unproved_text c.args.form.sheet c.args.style.now) both c.in_ok-instance.ensures.found
    c.in_ok-table.ensures.found named c.in_ok-labels.ensures in
    rw (e.1, e.2) (subst (IsNotPut (fault_from_page f)) same (output_tells f _ c.in_err-page.ensures.size))

pub returns-in_err-page-clause-fault : goal.returns-in_err-page-clause-fault
returns-in_err-page-clause-fault g c =
    let e = err_from_is_err_and c.from_residual-in_err-page.result c.from_residual-in_err-page.ensures.1 in
    rw (e.1, e.2)
    (plain_page_tells c.args.instance.now c.args.solution.now c.in_ok-instance.instance c.in_ok-table.table c.args.form
    c.in_ok-instance.ensures.found c.in_ok-table.ensures.found c.args.style.now _ _ _ c.in_err-page.field-0.0 _
    c.in_ok-labels.ensures
    (c.shown_for-shown.ensures.text c.args.style.now c.in_ok-instance.instance c.in_ok-table.table c.in_ok-labels.labels)
    (λ is. c.in_err-page.ensures.part (ap (λ f. Err f) is)) c.in_err-page.ensures.size)

pub returns-clause-written : goal.returns-clause-written
returns-clause-written g c =
    let same = c.shown_for-shown.ensures.text c.args.style.now c.in_ok-instance.instance c.in_ok-table.table c.in_ok-labels.labels
    in record {
      put = record {
        problem = c.in_ok-instance.instance;
        table = c.in_ok-table.table;
        labels = c.in_ok-labels.labels;
        both = record { spelled = c.in_ok-instance.ensures.found; solved = c.in_ok-table.ensures.found };
        named = c.in_ok-labels.ensures;
        within = subst IsWithinLimit same c.in_ok-page.ensures.size;
        written = subst (λ (x : List ℕ). Appends (g.W.Sink.contents c.args.sink.now) (g.W.Sink.contents c.page.new.sink) x) same
            c.in_ok-page.ensures.written;
        done = refl;
      };
      there = sym c.has_weeks.ensures ∙ c.if-not-has_weeks.false;
    }

pub returns-clause-only : goal.returns-clause-only
returns-clause-only g c =
    λ p t l both named there.
    subst IsWithinLimit
    (c.shown_for-shown.ensures.text c.args.style.now c.in_ok-instance.instance c.in_ok-table.table c.in_ok-labels.labels
    ∙ page_same c.args.instance.now c.args.solution.now p c.in_ok-instance.instance t c.in_ok-table.table c.args.form.names l
    c.in_ok-labels.labels (unproved_text c.args.form.sheet c.args.style.now) both c.in_ok-instance.ensures.found
    c.in_ok-table.ensures.found named c.in_ok-labels.ensures) c.in_ok-page.ensures.size

pub returns-in_err-instance-clause-failed : goal.returns-in_err-instance-clause-failed
returns-in_err-instance-clause-failed g c =
    let f = c.in_err-instance.field-0.0 in
    calm c.from_residual.result (fault_from_instance f) is_failed_write _ _ c.from_residual.ensures.1 (instance_write f) refl

pub returns-in_err-table-clause-failed : goal.returns-in_err-table-clause-failed
returns-in_err-table-clause-failed g c =
    let f = c.in_err-table.field-0.0 in
    calm c.from_residual-in_err-table.result (fault_from_solution f) is_failed_write _ _ c.from_residual-in_err-table.ensures.1
    (solution_write f) refl

pub returns-in_err-labels-clause-failed : goal.returns-in_err-labels-clause-failed
returns-in_err-labels-clause-failed g c =
    let f = c.in_err-labels.field-0.0 in
    calm c.from_residual-in_err-labels.result (fault_from_labels f) is_failed_write _ _ c.from_residual-in_err-labels.ensures.1
    (labels_write f) refl

pub returns-in_err-page-clause-failed : goal.returns-in_err-page-clause-failed
returns-in_err-page-clause-failed g c =
    let f = c.in_err-page.field-0.0 in
    passed c.from_residual-in_err-page.result (fault_from_page f) is_failed_write _ _ _ c.from_residual-in_err-page.ensures.1
    (page_write f) c.in_err-page.ensures.failed
