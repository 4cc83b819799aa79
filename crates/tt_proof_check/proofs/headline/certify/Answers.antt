use Rattle.std.proofs.Common.{◌≡◌, Err, refl, sym, ap, subst, ◌∙◌}
use Rattle.tt_text.specs.declared.stop.Stop.TheVariants.{ReadFailed}
use Rattle.tt_text.proofs.Stops.{OnFault-each, unread, not_read, mapped_reads, mapped_read}
use Rattle.tt_proof_check.specs.Verdicts.{IsYes}
use Rattle.tt_proof_check.specs.declared.fault.CertifyFault.TheVariants.{Proof}
use Rattle.tt_proof_check.proofs.Certifying.{points, no_points, instance_told, solution_told, files_first, files_exactly, instance_broken, solution_broken, instance_lower, solution_lower, instance_reads, solution_reads, check_lower, check_file, check_exactly, not_certified, broken_found, is_feasible, not_broken, bound_tells, certified_proof, certified_cost, yes_found, exactly_certified, certified_bounds, ok_bound, solves_here}
use Rattle.tt_proof_check.proofs.headline.certify.Goals as goal

pub returns-in-Err-clause-exactly : goal.returns-in-Err-clause-exactly
returns-in-Err-clause-exactly g c =
    λ n b bytes known. files_exactly c.args.instance.now c.args.solution.now bytes n b c.stop_from_instance.result
    (instance_told c.args.instance.now c.args.solution.now c.in-Err.fault c.stop_from_instance.result
    c.stop_from_instance.ensures c.in-Err.ensures.exact)

pub returns-in-Err-clause-broken : goal.returns-in-Err-clause-broken
returns-in-Err-clause-broken g c =
    λ k. (
      instance_broken c.args.instance.now c.args.solution.now c.in-Err.fault c.stop_from_instance.result
          c.stop_from_instance.ensures c.in-Err.ensures.exact k,
      refl,
    )

pub returns-in-Err-clause-fault : goal.returns-in-Err-clause-fault
returns-in-Err-clause-fault g c =
    files_first c.args.instance.now c.args.solution.now _ c.stop_from_instance.result
    (instance_told c.args.instance.now c.args.solution.now c.in-Err.fault c.stop_from_instance.result
    c.stop_from_instance.ensures c.in-Err.ensures.exact)

pub returns-in-Err-clause-lower : goal.returns-in-Err-clause-lower
returns-in-Err-clause-lower g c =
    instance_lower c.in-Err.fault c.stop_from_instance.result c.stop_from_instance.ensures

pub returns-in-Err-clause-unread : goal.returns-in-Err-clause-unread
returns-in-Err-clause-unread g c =
    OnFault-each c.stop_from_instance.result _ (λ f of. refl)

pub returns-in-Err-clause-failed : goal.returns-in-Err-clause-failed
returns-in-Err-clause-failed g c =
    unread c.stop_from_instance.result _ (instance_reads c.in-Err.fault c.stop_from_instance.result c.stop_from_instance.ensures)

pub returns-in-Err-clause-up_to_failed_read : goal.returns-in-Err-clause-up_to_failed_read
returns-in-Err-clause-up_to_failed_read g c =
    λ reported. absurd (not_read c.stop_from_instance.result (instance_reads c.in-Err.fault c.stop_from_instance.result
    c.stop_from_instance.ensures) (cc))

pub returns-in-Err-read_solution-clause-exactly : goal.returns-in-Err-read_solution-clause-exactly
returns-in-Err-read_solution-clause-exactly g c =
    λ n b bytes known. files_exactly c.args.instance.now c.args.solution.now bytes n b c.stop_from_solution.result
    (solution_told c.args.instance.now c.args.solution.now c.in-Ok.instance c.in-Err-read_solution.fault
    c.stop_from_solution.result c.stop_from_solution.ensures
    c.in-Ok.ensures.found c.in-Err-read_solution.ensures.exact)

pub returns-in-Err-read_solution-clause-broken : goal.returns-in-Err-read_solution-clause-broken
returns-in-Err-read_solution-clause-broken g c =
    λ k. (
      solution_broken c.args.instance.now c.args.solution.now c.in-Ok.instance c.in-Err-read_solution.fault
          c.stop_from_solution.result c.stop_from_solution.ensures c.in-Ok.ensures.found
          c.in-Err-read_solution.ensures.exact k,
      refl,
    )

pub returns-in-Err-read_solution-clause-fault : goal.returns-in-Err-read_solution-clause-fault
returns-in-Err-read_solution-clause-fault g c =
    files_first c.args.instance.now c.args.solution.now _ c.stop_from_solution.result
    (solution_told c.args.instance.now c.args.solution.now c.in-Ok.instance c.in-Err-read_solution.fault
    c.stop_from_solution.result c.stop_from_solution.ensures
    c.in-Ok.ensures.found c.in-Err-read_solution.ensures.exact)

pub returns-in-Err-read_solution-clause-lower : goal.returns-in-Err-read_solution-clause-lower
returns-in-Err-read_solution-clause-lower g c =
    solution_lower c.in-Err-read_solution.fault c.stop_from_solution.result c.stop_from_solution.ensures

pub returns-in-Err-read_solution-clause-unread : goal.returns-in-Err-read_solution-clause-unread
returns-in-Err-read_solution-clause-unread g c =
    OnFault-each c.stop_from_solution.result _ (λ f of. refl)

pub returns-in-Err-read_solution-clause-failed : goal.returns-in-Err-read_solution-clause-failed
returns-in-Err-read_solution-clause-failed g c =
    unread c.stop_from_solution.result _ (solution_reads c.in-Err-read_solution.fault c.stop_from_solution.result
    c.stop_from_solution.ensures)

pub returns-in-Err-read_solution-clause-up_to_failed_read : goal.returns-in-Err-read_solution-clause-up_to_failed_read
returns-in-Err-read_solution-clause-up_to_failed_read g c =
    λ reported. absurd (not_read c.stop_from_solution.result (solution_reads c.in-Err-read_solution.fault
    c.stop_from_solution.result c.stop_from_solution.ensures) (cc))

pub returns-then-not-feasible-clause-found : goal.returns-then-not-feasible-clause-found
returns-then-not-feasible-clause-found g c =
    broken_found c.args.instance.now c.args.solution.now c.in-Ok.instance c.in-Ok-read_solution.table c.in-Ok.ensures.found
    c.in-Ok-read_solution.ensures.found c.score-score.result c.score-score.ensures
    (points c.feasible.result _ c.feasible.ensures c.if-not-feasible.true)

pub returns-then-not-feasible-clause-exactly : goal.returns-then-not-feasible-clause-exactly
returns-then-not-feasible-clause-exactly g c =
    λ n b bytes known.
    exactly_certified c.args.instance.now c.args.solution.now (g.R.Source.remaining c.args.proof.now) _ bytes known
    (returns-then-not-feasible-clause-found g c)
    (λ m k h. absurd (not_certified c.args.instance.now c.args.solution.now c.in-Ok.instance c.in-Ok-read_solution.table
    c.in-Ok.ensures.found
    c.in-Ok-read_solution.ensures.found c.score-score.result c.score-score.ensures bytes m k
    (points c.feasible.result _ c.feasible.ensures c.if-not-feasible.true) h)) n b

pub proved_bound-requires : goal.proved_bound-requires
proved_bound-requires g c =
    is_feasible c.args.instance.now c.args.solution.now c.in-Ok.instance c.in-Ok-read_solution.table c.in-Ok.ensures.found
    c.in-Ok-read_solution.ensures.found c.score-score.result c.score-score.ensures
    (no_points c.feasible.result _ c.feasible.ensures c.if-not-feasible.false)

pub returns-in-Ok-proved_bound-clause-found : goal.returns-in-Ok-proved_bound-clause-found
returns-in-Ok-proved_bound-clause-found g c =
    subst (λ n. IsYes c.args.instance.now c.args.solution.now (g.R.Source.remaining c.args.proof.now) n c.in-Ok-proved_bound.bound)
    (sym c.cost.ensures)
    (yes_found c.args.instance.now c.args.solution.now c.in-Ok.instance c.in-Ok-read_solution.table c.in-Ok.ensures.found
    c.in-Ok-read_solution.ensures.found c.score-score.result c.score-score.ensures
    (g.R.Source.remaining c.args.proof.now) c.in-Ok-proved_bound.bound
    (no_points c.feasible.result _ c.feasible.ensures c.if-not-feasible.false) c.in-Ok-proved_bound.ensures.found
    c.in-Ok-proved_bound.ensures.holds)

pub returns-in-Ok-proved_bound-clause-exactly : goal.returns-in-Ok-proved_bound-clause-exactly
returns-in-Ok-proved_bound-clause-exactly g c =
    λ n b bytes known.
    exactly_certified c.args.instance.now c.args.solution.now (g.R.Source.remaining c.args.proof.now) _ bytes known
    (returns-in-Ok-proved_bound-clause-found g c)
    (λ m k h. (
      c.cost.ensures ∙ certified_cost c.args.instance.now c.args.solution.now c.in-Ok.instance c.in-Ok-read_solution.table
          c.in-Ok.ensures.found
          c.in-Ok-read_solution.ensures.found c.score-score.result c.score-score.ensures bytes m k h,
      ok_bound _ k
          (c.in-Ok-proved_bound.ensures.only bytes k known (certified_proof c.args.instance.now c.args.solution.now
          c.in-Ok.instance c.in-Ok-read_solution.table c.in-Ok.ensures.found
          c.in-Ok-read_solution.ensures.found c.score-score.result c.score-score.ensures bytes m k h)),
    )) n b

pub returns-in-Ok-proved_bound-clause-bounds : goal.returns-in-Ok-proved_bound-clause-bounds
returns-in-Ok-proved_bound-clause-bounds g c =
    λ n b is. certified_bounds c.args.instance.now c.args.solution.now (g.R.Source.remaining c.args.proof.now) _
    (returns-in-Ok-proved_bound-clause-found g c) n b is

pub returns-in-Ok-proved_bound-clause-broken : goal.returns-in-Ok-proved_bound-clause-broken
returns-in-Ok-proved_bound-clause-broken g c =
    λ k. absurd (not_broken c.args.instance.now c.args.solution.now c.in-Ok.instance c.in-Ok-read_solution.table c.in-Ok.ensures.found
    c.in-Ok-read_solution.ensures.found c.score-score.result c.score-score.ensures
    (no_points c.feasible.result _ c.feasible.ensures c.if-not-feasible.false) k)

pub returns-clause-exactly : goal.returns-clause-exactly
returns-clause-exactly g c =
    λ n b bytes known. check_exactly c.in-Err-proved_bound.stop c.stop_from_check.result c.stop_from_check.ensures n b _
    (λ h. c.in-Err-proved_bound.ensures.only bytes b known (certified_proof c.args.instance.now c.args.solution.now
    c.in-Ok.instance c.in-Ok-read_solution.table c.in-Ok.ensures.found
    c.in-Ok-read_solution.ensures.found c.score-score.result c.score-score.ensures bytes n b h))

pub returns-clause-broken : goal.returns-clause-broken
returns-clause-broken g c =
    λ k. absurd (not_broken c.args.instance.now c.args.solution.now c.in-Ok.instance c.in-Ok-read_solution.table c.in-Ok.ensures.found
    c.in-Ok-read_solution.ensures.found c.score-score.result c.score-score.ensures
    (no_points c.feasible.result _ c.feasible.ensures c.if-not-feasible.false) k)

pub returns-clause-fault : goal.returns-clause-fault
returns-clause-fault g c =
    bound_tells c.args.instance.now c.args.solution.now c.in-Ok.instance c.in-Ok-read_solution.table c.in-Ok.ensures.found
    c.in-Ok-read_solution.ensures.found c.score-score.result c.score-score.ensures
    (g.R.Source.remaining c.args.proof.now) c.in-Err-proved_bound.stop c.stop_from_check.result c.stop_from_check.ensures
    (no_points c.feasible.result _ c.feasible.ensures c.if-not-feasible.false) c.in-Err-proved_bound.ensures.fault

pub returns-clause-lower : goal.returns-clause-lower
returns-clause-lower g c =
    check_lower c.in-Err-proved_bound.stop c.stop_from_check.result c.stop_from_check.ensures c.in-Err-proved_bound.ensures.lower

pub returns-clause-unread : goal.returns-clause-unread
returns-clause-unread g c =
    check_file c.in-Err-proved_bound.stop c.stop_from_check.result c.stop_from_check.ensures _

pub returns-clause-failed : goal.returns-clause-failed
returns-clause-failed g c =
    mapped_reads Proof c.in-Err-proved_bound.stop c.stop_from_check.result c.stop_from_check.ensures _ _
    c.in-Err-proved_bound.ensures.failed

pub returns-clause-up_to_failed_read : goal.returns-clause-up_to_failed_read
returns-clause-up_to_failed_read g c =
    λ reported bytes known.
    let is : c.in-Err-proved_bound.stop ≡ ReadFailed = mapped_read Proof c.in-Err-proved_bound.stop c.stop_from_check.result
    c.stop_from_check.ensures (cc) in
    record {
      problem = c.in-Ok.instance;
      spelled = c.in-Ok.ensures.found;
      explains = c.in-Err-proved_bound.ensures.up_to_failed_read (ap (λ x. Err x) is) bytes known;
    }

pub returns-in-Err-clause-read_last : goal.returns-in-Err-clause-read_last
returns-in-Err-clause-read_last g c =
    λ reported. absurd (not_read c.stop_from_instance.result (instance_reads c.in-Err.fault c.stop_from_instance.result
    c.stop_from_instance.ensures) (cc))

pub returns-in-Err-read_solution-clause-read_last : goal.returns-in-Err-read_solution-clause-read_last
returns-in-Err-read_solution-clause-read_last g c =
    λ reported. absurd (not_read c.stop_from_solution.result (solution_reads c.in-Err-read_solution.fault
    c.stop_from_solution.result c.stop_from_solution.ensures) (cc))

pub returns-clause-read_last : goal.returns-clause-read_last
returns-clause-read_last g c =
    λ reported. (
      _,
      solves_here c.args.instance.now c.args.solution.now c.in-Ok.instance c.in-Ok-read_solution.table c.in-Ok.ensures.found
          c.in-Ok-read_solution.ensures.found c.score-score.result c.score-score.ensures
          (no_points c.feasible.result _ c.feasible.ensures c.if-not-feasible.false),
    )
