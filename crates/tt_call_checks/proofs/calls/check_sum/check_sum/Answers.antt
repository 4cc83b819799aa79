use Rattle.std.proofs.Common.{◌+◌, ℕ, Err, refl, sym, ap, subst, ◌∙◌, inl, inr}
use Rattle.std.proofs.lemmas.List.Elements.{All-nil}
use Rattle.std.proofs.lemmas.Result.{err_from_is_err_and}
use Rattle.tt_path.specs.Facts.{Holds}
use Rattle.tt_proof_check.proofs.TextFaults.{err_same}
use Rattle.tt_proof_check.proofs.Certifying.{points, no_points, is_feasible, not_broken, broken_found}
use Rattle.tt_proof_sum.specs.Added.{Give}
use Rattle.tt_call_answers.specs.FaultMaps.{fault_from_instance, fault_from_solution, fault_from_sum}
use Rattle.tt_call_checks.specs.Summed.{IsSumYes}
use Rattle.tt_call_answers.specs.declared.fault.AppFault.TheVariants as fault
use Rattle.tt_call_answers.specs.Refusals.{is_failed_read_at}
use Rattle.tt_call_checks.proofs.Answering.{yes_same}
use Rattle.tt_call_answers.proofs.FailedReads.{passed, calm, unread, instance_read_at, solution_read_at, sum_read, read_summed}
use Rattle.tt_call_answers.proofs.Files.{tells_instance, tells_solution, only_memory}
use Rattle.tt_call_answers.proofs.ReportedMemory.{lower_instance, lower_solution, lower_sum}
use Rattle.tt_call_answers.proofs.Sums.{silent_refusal}
use Rattle.tt_call_checks.proofs.AddingBoth.{sum_certified, sum_not_certified, sum_cost, sum_fails, sum_yes}
use Rattle.tt_call_checks.proofs.calls.check_sum.check_sum.Goals as goal

pub returns-in_err-instance-clause-yes : goal.returns-in_err-instance-clause-yes
returns-in_err-instance-clause-yes g c =
    let e = err_from_is_err_and c.from_residual.result c.from_residual.ensures.1 in
    λ n b files given h within. rw (e.1, e.2)
    (inl (only_memory c.args.instance.now c.args.solution.now h.solves.problem h.solves.table _ h.solves.both
    (tells_instance c.args.instance.now c.args.solution.now c.in_err-instance.field-0.0 c.in_err-instance.ensures.exact)))

pub returns-in_err-instance-clause-broken : goal.returns-in_err-instance-clause-broken
returns-in_err-instance-clause-broken g c =
    let e = err_from_is_err_and c.from_residual.result c.from_residual.ensures.1 in
    λ k. (
      rw (e.1, e.2) (only_memory c.args.instance.now c.args.solution.now k.problem k.table _ k.both
          (tells_instance c.args.instance.now c.args.solution.now c.in_err-instance.field-0.0 c.in_err-instance.ensures.exact)),
      refl,
    )

pub returns-in_err-instance-clause-lower : goal.returns-in_err-instance-clause-lower
returns-in_err-instance-clause-lower g c =
    let e = err_from_is_err_and c.from_residual.result c.from_residual.ensures.1 in
    rw (e.1, e.2) (lower_instance c.in_err-instance.field-0.0)

pub returns-in_err-table-clause-yes : goal.returns-in_err-table-clause-yes
returns-in_err-table-clause-yes g c =
    let e = err_from_is_err_and c.from_residual-in_err-table.result c.from_residual-in_err-table.ensures.1 in
    λ n b files given h within. rw (e.1, e.2)
    (inl (only_memory c.args.instance.now c.args.solution.now h.solves.problem h.solves.table _ h.solves.both
    (tells_solution c.args.instance.now c.args.solution.now c.in_ok-instance.instance c.in_err-table.field-0.0
    c.in_ok-instance.ensures.found c.in_err-table.ensures.exact)))

pub returns-in_err-table-clause-broken : goal.returns-in_err-table-clause-broken
returns-in_err-table-clause-broken g c =
    let e = err_from_is_err_and c.from_residual-in_err-table.result c.from_residual-in_err-table.ensures.1 in
    λ k. (
      rw (e.1, e.2) (only_memory c.args.instance.now c.args.solution.now k.problem k.table _ k.both
          (tells_solution c.args.instance.now c.args.solution.now c.in_ok-instance.instance c.in_err-table.field-0.0
          c.in_ok-instance.ensures.found c.in_err-table.ensures.exact)),
      refl,
    )

pub returns-in_err-table-clause-lower : goal.returns-in_err-table-clause-lower
returns-in_err-table-clause-lower g c =
    let e = err_from_is_err_and c.from_residual-in_err-table.result c.from_residual-in_err-table.ensures.1 in
    rw (e.1, e.2) (lower_solution c.in_err-table.field-0.0)

pub returns-then-not-feasible-clause-found : goal.returns-then-not-feasible-clause-found
returns-then-not-feasible-clause-found g c =
    inr (record {
      score = c.score-score.result;
      is = broken_found c.args.instance.now c.args.solution.now c.in_ok-instance.instance c.in_ok-table.table
          c.in_ok-instance.ensures.found c.in_ok-table.ensures.found c.score-score.result c.score-score.ensures
          (points c.feasible.result _ c.feasible.ensures c.if-not-feasible.true);
      answer = c.in_ok-broken_answer.ensures;
    })

pub returns-then-not-feasible-clause-yes : goal.returns-then-not-feasible-clause-yes
returns-then-not-feasible-clause-yes g c =
    λ n b files given h within. absurd
    (sum_not_certified c.args.instance.now c.args.solution.now c.in_ok-instance.instance c.in_ok-table.table
    c.in_ok-instance.ensures.found c.in_ok-table.ensures.found c.score-score.result c.score-score.ensures files n b
    (points c.feasible.result _ c.feasible.ensures c.if-not-feasible.true) h within)

pub summed_bound-requires-clause-feasible : goal.summed_bound-requires-clause-feasible
summed_bound-requires-clause-feasible g c = is_feasible c.args.instance.now c.args.solution.now c.in_ok-instance.instance
    c.in_ok-table.table
    c.in_ok-instance.ensures.found c.in_ok-table.ensures.found c.score-score.result c.score-score.ensures
    (no_points c.feasible.result _ c.feasible.ensures c.if-not-feasible.false)

pub returns-in_err-bound-clause-fault : goal.returns-in_err-bound-clause-fault
returns-in_err-bound-clause-fault g c =
    let e = err_from_is_err_and c.from_residual-in_err-bound.result c.from_residual-in_err-bound.ensures.1 in
    rw (e.1, e.2)
    (sum_fails c.args.instance.now c.args.solution.now c.in_ok-instance.instance c.in_ok-table.table c.in_ok-instance.ensures.found
    c.in_ok-table.ensures.found c.score-score.result c.score-score.ensures
    (Give g.R.Source.remaining c.args.proofs.now) c.in_err-bound.field-0.0
    (no_points c.feasible.result _ c.feasible.ensures c.if-not-feasible.false) c.in_err-bound.ensures.fault)

pub returns-in_err-bound-clause-yes : goal.returns-in_err-bound-clause-yes
returns-in_err-bound-clause-yes g c =
    let e = err_from_is_err_and c.from_residual-in_err-bound.result c.from_residual-in_err-bound.ensures.1 in
    λ n b files given h within.
    let here = sum_certified c.args.instance.now c.args.solution.now c.in_ok-instance.instance c.in_ok-table.table
    c.in_ok-instance.ensures.found c.in_ok-table.ensures.found files n b h within in
    rw (e.1, e.2) (silent_refusal c.in_err-bound.field-0.0 (c.in_err-bound.ensures.only files b given here.sum here.within))

pub returns-in_err-bound-clause-broken : goal.returns-in_err-bound-clause-broken
returns-in_err-bound-clause-broken g c =
    λ k. absurd (not_broken c.args.instance.now c.args.solution.now c.in_ok-instance.instance c.in_ok-table.table
    c.in_ok-instance.ensures.found c.in_ok-table.ensures.found c.score-score.result c.score-score.ensures
    (no_points c.feasible.result _ c.feasible.ensures c.if-not-feasible.false) k)

pub returns-in_err-bound-clause-lower : goal.returns-in_err-bound-clause-lower
returns-in_err-bound-clause-lower g c =
    let e = err_from_is_err_and c.from_residual-in_err-bound.result c.from_residual-in_err-bound.ensures.1 in
    rw (e.1, e.2) (lower_sum c.in_err-bound.field-0.0 c.in_err-bound.ensures.lower)

pub returns-in_err-bound-clause-up_to_failed_read : goal.returns-in_err-bound-clause-up_to_failed_read
returns-in_err-bound-clause-up_to_failed_read g c =
    λ i r q bytes reported was now known.
    let is = read_summed c.in_err-bound.field-0.0 _
    (err_same c.from_residual-in_err-bound.result _ (fault.ReadFailedIn _) c.from_residual-in_err-bound.ensures.1 reported) in
    record {
      problem = c.in_ok-instance.instance;
      spelled = c.in_ok-instance.ensures.found;
      explains = c.in_err-bound.ensures.up_to_failed_read i r q bytes (ap (λ f. Err f) is) was now known;
    }

pub returns-in_err-yes_answer-clause-broken : goal.returns-in_err-yes_answer-clause-broken
returns-in_err-yes_answer-clause-broken g c =
    λ k. absurd (not_broken c.args.instance.now c.args.solution.now c.in_ok-instance.instance c.in_ok-table.table
    c.in_ok-instance.ensures.found c.in_ok-table.ensures.found c.score-score.result c.score-score.ensures
    (no_points c.feasible.result _ c.feasible.ensures c.if-not-feasible.false) k)

pub returns-clause-found : goal.returns-clause-found
returns-clause-found g c =
    inl (record {
      cost = c.cost.result;
      bound = c.in_ok-bound.bound;
      is = subst (λ (n : ℕ). IsSumYes c.args.instance.now c.args.solution.now
          (Give g.R.Source.remaining c.args.proofs.now) n c.in_ok-bound.bound) (sym c.cost.ensures)
          (sum_yes c.args.instance.now c.args.solution.now c.in_ok-instance.instance c.in_ok-table.table c.in_ok-instance.ensures.found
          c.in_ok-table.ensures.found c.score-score.result c.score-score.ensures
          (Give g.R.Source.remaining c.args.proofs.now) c.in_ok-bound.bound
          (no_points c.feasible.result _ c.feasible.ensures c.if-not-feasible.false) c.in_ok-bound.ensures.found
          (λ t ok. c.in_ok-bound.ensures.holds t ok (All-nil (Holds c.in_ok-instance.instance t))));
      answer = c.in_ok-yes_answer.ensures;
    })

pub returns-clause-yes : goal.returns-clause-yes
returns-clause-yes g c =
    λ n b files given h within.
    let here = sum_certified c.args.instance.now c.args.solution.now c.in_ok-instance.instance c.in_ok-table.table
    c.in_ok-instance.ensures.found c.in_ok-table.ensures.found files n b h within in
    yes_same c.in_ok-yes_answer.field-0 c.cost.result c.in_ok-bound.bound n b (
      c.cost.ensures ∙ sum_cost c.args.instance.now c.args.solution.now c.in_ok-instance.instance c.in_ok-table.table
          c.in_ok-instance.ensures.found c.in_ok-table.ensures.found c.score-score.result c.score-score.ensures files n b h within,
      c.in_ok-bound.ensures.only files b given here.sum here.within,
    ) c.in_ok-yes_answer.ensures

pub returns-clause-broken : goal.returns-clause-broken
returns-clause-broken g c =
    λ k. absurd (not_broken c.args.instance.now c.args.solution.now c.in_ok-instance.instance c.in_ok-table.table
    c.in_ok-instance.ensures.found c.in_ok-table.ensures.found c.score-score.result c.score-score.ensures
    (no_points c.feasible.result _ c.feasible.ensures c.if-not-feasible.false) k)

pub returns-in_err-instance-clause-failed : goal.returns-in_err-instance-clause-failed
returns-in_err-instance-clause-failed g c =
    λ i r found.
    let f = c.in_err-instance.field-0.0 in
    calm c.from_residual.result (fault_from_instance f) (is_failed_read_at (i + 1)) _ _ c.from_residual.ensures.1
    (instance_read_at (i + 1) f) (unread g.R.Source.has_failed c.args.proofs.now i r found)

pub returns-in_err-table-clause-failed : goal.returns-in_err-table-clause-failed
returns-in_err-table-clause-failed g c =
    λ i r found.
    let f = c.in_err-table.field-0.0 in
    calm c.from_residual-in_err-table.result (fault_from_solution f)
    (is_failed_read_at (i + 1)) _ _ c.from_residual-in_err-table.ensures.1 (solution_read_at (i + 1) f)
    (unread g.R.Source.has_failed c.args.proofs.now i r found)

pub returns-in_err-bound-clause-failed : goal.returns-in_err-bound-clause-failed
returns-in_err-bound-clause-failed g c =
    λ i r found.
    let f = c.in_err-bound.field-0.0 in
    passed c.from_residual-in_err-bound.result (fault_from_sum f)
    (is_failed_read_at (i + 1)) _ _ _ c.from_residual-in_err-bound.ensures.1 (sum_read (i + 1) f)
    (c.in_err-bound.ensures.failed i r found)

pub returns-then-not-feasible-clause-failed : goal.returns-then-not-feasible-clause-failed
returns-then-not-feasible-clause-failed g c = λ i r found. unread g.R.Source.has_failed c.args.proofs.now i r found

pub summed_bound-requires-clause-fits : goal.summed_bound-requires-clause-fits
summed_bound-requires-clause-fits g c = All-nil (Holds c.in_ok-instance.instance c.in_ok-table.table)
