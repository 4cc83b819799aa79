use Rattle.std.proofs.Common.{refl}
use Rattle.std.proofs.lemmas.Result.{IfOk-equal}
use Rattle.tt_proof_write.specs.Written.{claim_pieces, tail_text}
use Rattle.tt_proof_write.specs.Inner.Numbers.{IsNarrowClaim}
use Rattle.tt_proof_write.proofs.TextLaws.{rows_written, pieces_behind, one_more, on_ok}
use Rattle.tt_proof_write.proofs.claims.put_claims.Goals as goal
use Rattle.tt_list_laws.proofs.Beginnings.{All_more, All_done}

pub loop-claim-preserved : goal.loop-claim-preserved
loop-claim-preserved c = record {
  text = one_more (λ k. tail_text (claim_pieces k)) c.args.claims.now c.loop-claim.claim-index c.claim-item.result c.claim-item.result
      c.args.out.now.items c.loop-claim.out.items c.put_claim.new.out.items c.loop-claim-test.true c.claim-item.is
      c.loop-claim.invariant.text c.in_ok-put_claim.ensures.text;
  narrow = All_more IsNarrowClaim c.args.claims.now c.loop-claim.claim-index c.claim-item.result c.claim-item.result
      c.loop-claim-test.true c.claim-item.is c.loop-claim.invariant.narrow c.in_ok-put_claim.ensures.narrow;
}

pub returns-clause-narrow : goal.returns-clause-narrow
returns-clause-narrow c =
    on_ok c.put_next_token.result
    (All_done IsNarrowClaim c.args.claims.now c.loop-claim.claim-index c.loop-claim-test.false c.loop-claim.invariant.narrow)

pub returns-clause-text : goal.returns-clause-text
returns-clause-text c =
    IfOk-equal c.put_next_token.result _ _ _ c.put_next_token.ensures.ok
    (pieces_behind _ _ _ _ _
    (rows_written claim_pieces c.args.claims.now c.loop-claim.claim-index c.args.out.now.items c.loop-claim.out.items
    c.loop-claim.invariant.text c.loop-claim-test.false) refl)
