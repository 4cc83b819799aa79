use Rattle.std.proofs.Common.{Err, sym, ap, subst, ◌∙◌}
use Rattle.tt_text.proofs.Stops.{OnFault-weaker, at_mapped, mapped_reads, mapped_read}
use Rattle.tt_proof_sum.specs.declared.fault.FileFault.TheVariants.{Proof}
use Rattle.tt_instance.specs.Limits.{IsInstance}
use Rattle.tt_proof_check.specs.Visited.{IsVisitedProof}
use Rattle.tt_proof_sum.specs.Tables.{State}
use Rattle.tt_proof_sum.proofs.Joining.{TableVisited, newest, joins, claimed_elsewhere}
use Rattle.tt_proof_sum.proofs.one_more.take_proof.Goals as goal

pub returns-in-Some-clause-fault : goal.returns-in-Some-clause-fault
returns-in-Some-clause-fault g c =
    λ before parts bytes of begins known kind.
    let p = c.args.checker.now in
    let root = c.args.root.now in
    let remaining = g.R.Source.remaining c.args.source.now in
    let b = c.check.new.visitor in
    let visited = subst (λ (a : State). IsVisitedProof p root remaining (TableVisited a b) c.in-Ok.bound) begins c.in-Ok.ensures.visited in
    claimed_elsewhere p root remaining before b parts of c.in-Ok.bound visited
    (subst IsInstance c.instance.ensures c.days.ensures.instance) bytes known c.in-Some.clash (sym c.clash.ensures ∙ c.in-Some.is)

pub returns-clause-joins : goal.returns-clause-joins
returns-clause-joins g c =
    λ before parts of begins.
    let p = c.args.checker.now in
    let root = c.args.root.now in
    let remaining = g.R.Source.remaining c.args.source.now in
    let b = c.check.new.visitor in
    let visited = subst (λ (a : State). IsVisitedProof p root remaining (TableVisited a b) c.in-Ok.bound) begins c.in-Ok.ensures.visited in
    joins p root remaining before b parts of c.in-Ok.bound visited (sym c.clash.ensures ∙ c.in_default.is)

pub returns-clause-proof : goal.returns-clause-proof
returns-clause-proof g c =
    newest c.args.checker.now c.args.root.now (g.R.Source.remaining c.args.source.now) c.args.table.now c.check.new.visitor
    c.requires c.in-Ok.bound c.in-Ok.ensures.visited

pub returns-in-Err-clause-fault : goal.returns-in-Err-clause-fault
returns-in-Err-clause-fault g c =
    at_mapped Proof c.in-Err.stop c.stop_from_check.result c.stop_from_check.ensures _
    (OnFault-weaker c.in-Err.stop _ _ (λ f explains before parts bytes of begins known kind.
    record { kind = kind; fault = explains bytes known }) c.in-Err.ensures.fault)

pub returns-in-Err-clause-lower : goal.returns-in-Err-clause-lower
returns-in-Err-clause-lower g c = at_mapped Proof c.in-Err.stop c.stop_from_check.result c.stop_from_check.ensures _ c.in-Err.ensures.lower

pub returns-in-Err-clause-failed : goal.returns-in-Err-clause-failed
returns-in-Err-clause-failed g c =
    mapped_reads Proof c.in-Err.stop c.stop_from_check.result c.stop_from_check.ensures _ _ c.in-Err.ensures.failed

pub returns-in-Err-clause-up_to_failed_read : goal.returns-in-Err-clause-up_to_failed_read
returns-in-Err-clause-up_to_failed_read g c =
    λ reported. c.in-Err.ensures.up_to_failed_read (ap (λ s. Err s) (mapped_read Proof c.in-Err.stop c.stop_from_check.result
    c.stop_from_check.ensures (cc)))
