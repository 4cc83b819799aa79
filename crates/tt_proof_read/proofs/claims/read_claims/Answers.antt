use Rattle.std.proofs.lemmas.Result.{err_from_is_err_and}
use Rattle.std.proofs.lemmas.List.Elements.{All-nil, All-push}
use Rattle.std.proofs.Common.{refl}
use Rattle.tt_proof_read.specs.Readers.{IsClaimAt}
use Rattle.tt_proof_read.proofs.ClaimTurns.{claims_left}
use Rattle.tt_proof_read.proofs.Progress.{claim_takes}
use Rattle.tt_proof_read.proofs.Underway.{underway_first, underway_then, underway_end, underway_fails}
use Rattle.tt_proof_read.proofs.claims.read_claims.Goals as goal

pub loop-claims-init : goal.loop-claims-init
loop-claims-init g c = record {
  read = underway_first _ _ _ _ _ (λ s. claims_left c.args.form.sizes c.args.form.version _ s c.new-claims.ensures.items);
  tables = c.requires;
  within = rw c.new-claims.ensures.items (All-nil (IsClaimAt c.args.form.sizes c.args.form.version));
}

pub returns-in_err-claim-clause-read : goal.returns-in_err-claim-clause-read
returns-in_err-claim-clause-read g c =
    let p = err_from_is_err_and c.from_residual.result c.from_residual.ensures.1 in
    rw (p.1, p.2) (underway_fails _ _ _ _ c.in_err-claim.field-0.0 _ _ _ _ c.loop-claims.invariant.read c.in_err-claim.ensures.read)

pub loop-claims-preserved : goal.loop-claims-preserved
loop-claims-preserved g c =
    let is_claim = rw c.in-Some.is at c.in_ok-claim.ensures.within in
    record {
      read = rw c.in_ok-push.ensures.items
          (underway_then _ _ _ (claim_takes c.args.form.sizes c.args.form.version) _ _ _ _ c.in_ok-claim.field-0 c.in-Some.claim
          c.in-Some.is c.loop-claims.invariant.read c.in_ok-claim.ensures.read);
      tables = c.in_ok-claim.ensures.tables;
      within = rw c.in_ok-push.ensures.items
          (All-push (IsClaimAt c.args.form.sizes c.args.form.version) c.loop-claims.claims.items c.in-Some.claim
          c.loop-claims.invariant.within is_claim);
    }

pub returns-clause-read : goal.returns-clause-read
returns-clause-read g c = underway_end _ _ _ _ c.loop-claims.claims _ _ _ _ c.in_ok-claim.field-0 refl c.in_default.is
    c.loop-claims.invariant.read c.in_ok-claim.ensures.read
