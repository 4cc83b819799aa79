use Rattle.std.proofs.Common.{All}
use Rattle.std.specs.List.{push}
use Rattle.tt_text.specs.Feeds.{room_of}
use Rattle.tt_proof_read.specs.Inner.Contract.{state_of}
use Rattle.tt_proof_read.specs.Inner.Pricing.{AreTables}
use Rattle.tt_proof_read.specs.Readers.{IsClaimAt}
use Rattle.tt_proof_read.specs.Reading.{claim_at, claims_at}
use Rattle.tt_proof_read.proofs.Underway.{IsUnderway}
use Rattle.tt_proof_read.proofs.claims.read_claims.Given as goal

abbrev pub invariant-loop-claims : goal.invariant-loop-claims
invariant-loop-claims g l = record {
  read : IsUnderway push (λ _ rest. claim_at l.form.sizes l.form.version rest) (claims_at l.form.sizes l.form.version)
      (state_of g.R.Source l.fn.feed l.fn.source) (state_of g.R.Source l.feed l.source) l.claims.items;
  tables : AreTables l.form.sizes l.tables;
  within : All (IsClaimAt l.form.sizes l.form.version) l.claims.items;
}

abbrev pub decreases-loop-claims : goal.decreases-loop-claims
decreases-loop-claims g l = room_of l.feed
