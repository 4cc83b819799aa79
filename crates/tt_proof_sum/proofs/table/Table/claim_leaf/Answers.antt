use Rattle.std.proofs.Common.{ℕ, List, map, sym, ap, ◌∙◌, subst}
use Rattle.std.specs.Prelude.{flat_map}
use Rattle.tt_leaf_rules.specs.Inner.NumberSet.{place, places_of}
use Rattle.tt_leaf.specs.declared.leaf.Claim.{Claim}
use Rattle.tt_leaf.specs.declared.leaf.Leaf.{Leaf}
use Rattle.tt_proof_sum.specs.Sums.{claimed_in}
use Rattle.tt_proof_sum.specs.Tables.{Claims, at_node}
use Rattle.tt_proof_sum.proofs.Tables.{claimed_places}
use Rattle.tt_proof_sum.proofs.table.Table.claim_leaf.Goals as goal

pub returns-in-Cost : goal.returns-in-Cost
returns-in-Cost c =
    let a = c.args.self.now in
    let b = c.claim_each.new.self in
    let n = c.args.node in
    subst (λ (x : Leaf). Claims a (at_node n (map place (claimed_in x))) b) (sym c.in-Cost.is)
    (subst (λ (xs : List (ℕ × ℕ)). Claims a xs b) (ap (flat_map (λ (k : Claim). at_node n (places_of k))) c.as_slice.ensures
    ∙ claimed_places n c.in-Cost.claims) c.claim_each.ensures)
