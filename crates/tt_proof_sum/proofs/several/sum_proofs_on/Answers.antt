use Rattle.std.proofs.Common.{◌≡◌, ℕ, ◌+◌, ◌≤◌, Bool, true, if◌then◌else◌, length, get_or, Err, refl, sym, ap, subst, ◌∙◌, arith, length-set}
use Rattle.std.proofs.lemmas.Option.{get_or_from_slice_get}
use Rattle.std.proofs.lemmas.Result.{err_from_is_err_and}
use Rattle.tt_text.specs.declared.stop.Stop.{Stop}
use Rattle.tt_proof_check.specs.Derives.{HoldsOn}
use Rattle.tt_proof_sum.specs.UpToFailedRead.{IsFileCheckedUpToFailedReadOn}
use Rattle.tt_leaf.specs.declared.leaf.Bound.{Bound}
use Rattle.tt_proof_sum.specs.Added.{due}
use Rattle.tt_proof_sum.specs.Faults.{read_failed_at}
use Rattle.tt_proof_sum.specs.Sums.{IsSumOn}
use Rattle.tt_proof_sum.proofs.Added.{added_over, explained_over}
use Rattle.tt_proof_sum.proofs.FailedReads.{memory_read}
use Rattle.tt_proof_sum.specs.declared.fault.FileFault.{FileFault}
use Rattle.tt_proof_sum.specs.declared.fault.SumStop.{SumStop}
use Rattle.tt_proof_sum.proofs.Lists.{taken, sofar_next, sofar_found, sofar_holds, sofar_refused, sum_unfinished, same_sum, same_at, at_source, later_at, failed_at}
use Rattle.tt_proof_sum.proofs.several.sum_proofs_on.Goals as goal

abbrev reported_stop : ℕ → Stop FileFault → SumStop
reported_stop n s = record { file = n; stop = s }

pub due-file-requires : goal.due-file-requires
due-file-requires g c =
    let old = c.args.sources.now in
    let now = c.loop-source.source-items in
    let within : c.loop-source.source-index ≤ length old = omega arith in
    let number = taken c.args.instance.now c.args.root.now g.R.Source.remaining g.R.Source.has_failed old now c.loop-source.source-index
    c.loop-source.sum within c.loop-source.invariant.sofar in
    omega (arith, number)

pub add-requires : goal.add-requires
add-requires g c =
    let old = c.args.sources.now in
    let now = c.loop-source.source-items in
    let within : c.loop-source.source-index ≤ length old = omega arith in
    let number = taken c.args.instance.now c.args.root.now g.R.Source.remaining g.R.Source.has_failed old now c.loop-source.source-index
    c.loop-source.sum within c.loop-source.invariant.sofar in
    record { room = omega (arith, number) }

pub returns-in-Err-clause-fault : goal.returns-in-Err-clause-fault
returns-in-Err-clause-fault g c =
    sofar_refused c.args.instance.now c.args.root.now g.R.Source.remaining g.R.Source.has_failed
    c.args.sources.now c.loop-source.source-items
    c.loop-source.source-index c.loop-source.sum (get_or c.loop-source.source-items c.loop-source.source-index c.source-item.result)
    c.due-file.result c.in-Err.stop c.loop-source-test.true
    (ap (get_or c.loop-source.source-items c.loop-source.source-index) c.source-item.is) c.loop-source.invariant.sofar
    c.due-file.ensures
    (explained_over c.args.instance.now c.args.root.now
    (g.R.Source.remaining (get_or c.loop-source.source-items c.loop-source.source-index c.source-item.result))
    c.loop-source.sum c.in-Err.stop c.loop-source.invariant.problem c.in-Err.ensures.fault)

pub returns-in-Err-clause-only : goal.returns-in-Err-clause-only
returns-in-Err-clause-only g c =
    λ proofs s given h within.
    let reported = sofar_refused c.args.instance.now c.args.root.now g.R.Source.remaining g.R.Source.has_failed c.args.sources.now
    c.loop-source.source-items c.loop-source.source-index c.loop-source.sum
    (get_or c.loop-source.source-items c.loop-source.source-index c.source-item.result)
    c.due-file.result c.in-Err.stop c.loop-source-test.true
    (ap (get_or c.loop-source.source-items c.loop-source.source-index) c.source-item.is) c.loop-source.invariant.sofar
    c.due-file.ensures
    (explained_over c.args.instance.now c.args.root.now
    (g.R.Source.remaining (get_or c.loop-source.source-items c.loop-source.source-index c.source-item.result))
    c.loop-source.sum c.in-Err.stop c.loop-source.invariant.problem c.in-Err.ensures.fault) proofs given in
    sum_unfinished c.args.instance.now c.args.root.now c.days.ensures.instance proofs s h within c.due-file.result c.in-Err.stop reported

pub returns-in_err-sum-clause-later : goal.returns-in_err-sum-clause-later
returns-in_err-sum-clause-later g c =
    let e = err_from_is_err_and c.from_residual.result c.from_residual.ensures.1 in
    rw (e.1, e.2) (λ i later. refl)

pub returns-in-Err-clause-later : goal.returns-in-Err-clause-later
returns-in-Err-clause-later g c =
    λ k later.
    let within : c.loop-source.source-index ≤ length c.args.sources.now = omega arith in
    let here = taken c.args.instance.now c.args.root.now g.R.Source.remaining g.R.Source.has_failed
    c.args.sources.now c.loop-source.source-items
    c.loop-source.source-index c.loop-source.sum within c.loop-source.invariant.sofar in
    later_at c.args.instance.now c.args.root.now g.R.Source.remaining g.R.Source.has_failed c.args.sources.now c.loop-source.source-items
    c.loop-source.source-index c.loop-source.sum c.add.new.source c.loop-source.invariant.long c.loop-source.invariant.sofar k
    (omega (arith, later, here, c.due-file.ensures))

pub returns-in_err-sum-clause-failed : goal.returns-in_err-sum-clause-failed
returns-in_err-sum-clause-failed g c =
    let e = err_from_is_err_and c.from_residual.result c.from_residual.ensures.1 in
    rw (e.1, e.2) (λ i r found. ap g.R.Source.has_failed (sym (get_or_from_slice_get c.args.sources.now i r r found))
    ∙ ap (λ (b : Bool). if b then true else g.R.Source.has_failed (get_or c.args.sources.now i r)) (sym (memory_read (i + 1))))

pub returns-in-Err-clause-failed : goal.returns-in-Err-clause-failed
returns-in-Err-clause-failed g c =
    let s = c.loop-source.sum in
    let within : c.loop-source.source-index ≤ length c.args.sources.now = omega arith in
    let here = taken c.args.instance.now c.args.root.now g.R.Source.remaining g.R.Source.has_failed
    c.args.sources.now c.loop-source.source-items
    c.loop-source.source-index s within c.loop-source.invariant.sofar in
    failed_at c.args.instance.now c.args.root.now g.R.Source.remaining g.R.Source.has_failed c.args.sources.now c.loop-source.source-items
    c.loop-source.source-index s (get_or c.loop-source.source-items c.loop-source.source-index c.source-item.result)
    c.add.new.source
    c.due-file.result c.in-Err.stop c.loop-source-test.true c.loop-source.invariant.long
    (ap (get_or c.loop-source.source-items c.loop-source.source-index) c.source-item.is) c.loop-source.invariant.sofar
    (c.due-file.ensures ∙ here) c.in-Err.ensures.failed

pub returns-in-Err-clause-up_to_failed_read : goal.returns-in-Err-clause-up_to_failed_read
returns-in-Err-clause-up_to_failed_read g c =
    λ i r q bytes reported before after known.
    let s = c.loop-source.sum in
    let is : reported_stop c.due-file.result c.in-Err.stop ≡ read_failed_at (i + 1) = cc in
    let number : i + 1 ≡ due s = sym (ap (λ (x : SumStop). x.file) is) ∙ c.due-file.ensures in
    let within : c.loop-source.source-index ≤ length c.args.sources.now = omega arith in
    let here = taken c.args.instance.now c.args.root.now g.R.Source.remaining g.R.Source.has_failed
    c.args.sources.now c.loop-source.source-items
    c.loop-source.source-index s within c.loop-source.invariant.sofar in
    let place : i ≡ c.loop-source.source-index = omega (arith, number, here) in
    let at = at_source c.args.instance.now c.args.root.now g.R.Source.remaining g.R.Source.has_failed
    c.args.sources.now c.loop-source.source-items
    c.loop-source.source-index s (get_or c.loop-source.source-items c.loop-source.source-index c.source-item.result)
    c.add.new.source c.loop-source-test.true
    c.loop-source.invariant.long (ap (get_or c.loop-source.source-items c.loop-source.source-index) c.source-item.is)
    c.loop-source.invariant.sofar i r q place before after in
    subst (λ x. IsFileCheckedUpToFailedReadOn c.args.instance.now c.args.root.now bytes (g.R.Source.remaining x)) (sym at.is)
    ((rw c.loop-source.invariant.problem at c.in-Err.ensures.up_to_failed_read) (ap (λ (x : SumStop). Err x.stop) is) bytes
    (ap g.R.Source.remaining at.was ∙ known))

pub loop-source-preserved : goal.loop-source-preserved
loop-source-preserved g c = record {
  sofar = sofar_next c.args.instance.now c.args.root.now g.R.Source.remaining g.R.Source.has_failed
      c.args.sources.now c.loop-source.source-items
      c.loop-source.source-index c.loop-source.sum c.in-Ok.sum
      (get_or c.loop-source.source-items c.loop-source.source-index c.source-item.result) c.add.new.source
      c.loop-source-test.true c.loop-source.invariant.long
      (ap (get_or c.loop-source.source-items c.loop-source.source-index) c.source-item.is) c.loop-source.invariant.sofar
      (added_over c.args.instance.now c.args.root.now
      (g.R.Source.remaining (get_or c.loop-source.source-items c.loop-source.source-index c.source-item.result))
      c.loop-source.sum c.in-Ok.sum c.loop-source.invariant.problem c.in-Ok.ensures.added) c.in-Ok.ensures.failed;
  problem = c.in-Ok.ensures.unchanged ∙ c.loop-source.invariant.problem;
  long = simp length-set c.loop-source.invariant.long;
}

pub returns-clause-found : goal.returns-clause-found
returns-clause-found g c =
    λ proofs given.
    let h = c.loop-source.invariant.sofar in
    subst (λ (b : Bound). IsSumOn c.args.instance.now c.args.root.now proofs b) (sym (c.bound.ensures h.parts h.of))
    (sofar_found c.args.instance.now c.args.root.now g.R.Source.remaining g.R.Source.has_failed
    c.args.sources.now c.loop-source.source-items
    c.loop-source.source-index c.loop-source.sum c.loop-source-test.false h proofs given)

pub returns-clause-only : goal.returns-clause-only
returns-clause-only g c =
    λ proofs s given i within.
    let h = c.loop-source.invariant.sofar in
    let found = sofar_found c.args.instance.now c.args.root.now g.R.Source.remaining g.R.Source.has_failed
    c.args.sources.now c.loop-source.source-items
    c.loop-source.source-index c.loop-source.sum c.loop-source-test.false h proofs given in
    c.bound.ensures h.parts h.of ∙ same_sum c.args.instance.now c.args.root.now c.days.ensures.instance proofs _ s found i

pub returns-clause-holds : goal.returns-clause-holds
returns-clause-holds g c =
    let h = c.loop-source.invariant.sofar in
    subst (λ (b : Bound). HoldsOn c.args.instance.now b c.args.root.now) (sym (c.bound.ensures h.parts h.of))
    (sofar_holds c.args.instance.now c.args.root.now g.R.Source.remaining g.R.Source.has_failed
    c.args.sources.now c.loop-source.source-items
    c.loop-source.source-index c.loop-source.sum h)

pub returns-clause-failed : goal.returns-clause-failed
returns-clause-failed g c =
    λ i r found.
    same_at c.args.instance.now c.args.root.now g.R.Source.remaining g.R.Source.has_failed
    c.args.sources.now c.loop-source.source-items
    c.loop-source.source-index c.loop-source.sum c.loop-source.invariant.long c.loop-source.invariant.sofar i r found
