use Rattle.std.proofs.Common.{◌<◌, take}
use Rattle.std.specs.Prelude.{flat_map}
use Rattle.tt_leaf_rules.specs.Inner.NumberSet.{places_of}
use Rattle.tt_leaf.specs.declared.leaf.Claim.{Claim}
use Rattle.tt_proof_sum.specs.Tables.{Claims, at_node}
use Rattle.tt_proof_sum.proofs.table.Table.claim_each.Given as goal

abbrev pub invariant-loop-claim : goal.invariant-loop-claim
invariant-loop-claim l =
    record {
      claims : Claims l.fn.self (flat_map (λ (k : Claim). at_node l.node (places_of k)) (take l.claim-index l.claims)) l.self;
      proof : 0 < l.self.proof;
    }
