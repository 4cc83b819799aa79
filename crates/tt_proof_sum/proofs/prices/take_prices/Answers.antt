use Rattle.std.proofs.Common.{◌≡◌, Err, None, ap, subst}
use Rattle.tt_text.proofs.Stops.{OnFault-weaker, at_mapped, mapped_reads, mapped_read}
use Rattle.tt_proof_sum.specs.declared.fault.FileFault.TheVariants.{Prices}
use Rattle.tt_proof_sum.specs.Inner.Owned.{FirstTarget}
use Rattle.tt_proof_sum.specs.Sums.{targets_of_claim}
use Rattle.tt_proof_sum.specs.Tables.{State, claim_places, first_owner, Marks}
use Rattle.tt_proof_sum.proofs.OwnersOfPrices.{prices_join, prices_claimed}
use Rattle.tt_proof_sum.proofs.prices.take_prices.Goals as goal

pub returns-in-Err-clause-fault : goal.returns-in-Err-clause-fault
returns-in-Err-clause-fault g c =
    at_mapped Prices c.in-Err.stop c.stop_from_prices.result c.stop_from_prices.ensures _
    (OnFault-weaker c.in-Err.stop _ _ (λ f explains root before parts bytes of begins known kind.
    record { kind = kind; fault = explains bytes known }) c.in-Err.ensures.fault)

pub returns-in-Err-clause-lower : goal.returns-in-Err-clause-lower
returns-in-Err-clause-lower g c =
    at_mapped Prices c.in-Err.stop c.stop_from_prices.result c.stop_from_prices.ensures _ c.in-Err.ensures.lower

pub returns-in-Err-clause-failed : goal.returns-in-Err-clause-failed
returns-in-Err-clause-failed g c =
    mapped_reads Prices c.in-Err.stop c.stop_from_prices.result c.stop_from_prices.ensures _ _ c.in-Err.ensures.failed

pub returns-in-Err-clause-up_to_failed_read : goal.returns-in-Err-clause-up_to_failed_read
returns-in-Err-clause-up_to_failed_read g c =
    λ reported. c.in-Err.ensures.up_to_failed_read (ap (λ s. Err s) (mapped_read Prices c.in-Err.stop c.stop_from_prices.result
    c.stop_from_prices.ensures (cc)))

pub returns-in-Some-clause-fault : goal.returns-in-Some-clause-fault
returns-in-Some-clause-fault g c =
    λ root before parts bytes of begins known kind.
    let n = c.courses-courses.result in
    let found = c.in-Some.ensures.some in
    prices_claimed c.args.instance.now c.days.ensures.instance (g.R.Source.remaining c.args.source.now) c.in-Ok.claim n
    c.courses-courses.ensures.value c.in-Ok.ensures.right before parts of bytes known kind c.in-Some.owned.target c.in-Some.owned.owner
    (subst (λ (a : State). FirstTarget a (targets_of_claim n c.in-Ok.claim) c.in-Some.owned.target c.in-Some.owned.owner) begins found)

pub returns-clause-joins : goal.returns-clause-joins
returns-clause-joins g c =
    λ root before parts known of begins kept kind.
    let n = c.courses-courses.result in
    let b = c.mark_claim.new.self in
    prices_join c.args.instance.now c.days.ensures.instance (g.R.Source.remaining c.args.source.now) c.in-Ok.claim n
    c.courses-courses.ensures.value c.in-Ok.ensures.right before parts of root b
    (subst (λ (a : State). first_owner a (claim_places n c.in-Ok.claim) ≡ None) begins c.in_default.ensures.none)
    (subst (λ (a : State). Marks a (claim_places n c.in-Ok.claim) b) begins c.mark_claim.ensures) known kept kind
