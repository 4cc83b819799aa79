use Rattle.std.proofs.Common.{ℕ, ◌<◌, sym, subst}
use Rattle.tt_leaf_rules.specs.Inner.NumberSet.{places_of}
use Rattle.tt_leaf.specs.declared.leaf.Claim.{Claim}
use Rattle.tt_proof_sum.specs.Tables.{at_node}
use Rattle.tt_proof_sum.proofs.Tables.{claims_more_is}
use Rattle.tt_proof_sum.proofs.table.Table.claim_each.Goals as goal

pub loop-claim-preserved : goal.loop-claim-preserved
loop-claim-preserved c = record {
  claims = claims_more_is (λ (k : Claim). at_node c.args.node (places_of k)) c.args.self.now c.loop-claim.self c.claim_targets.new.self
      c.args.claims.now c.loop-claim.claim-index c.claim-item.result c.requires
      c.loop-claim-test.true c.claim-item.is c.loop-claim.invariant.claims c.claim_targets.ensures;
  proof = subst (λ (q : ℕ). 0 < q) (sym c.claim_targets.ensures.proof) c.loop-claim.invariant.proof;
}
