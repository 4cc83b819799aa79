use Rattle.std.proofs.Common.{ℕ, ◌*◌, List, [], ◌∷◌, sym, ap, ◌∙◌, subst}
use Rattle.std.specs.Prelude.{flat_map}
use Rattle.tt_leaf_rules.specs.Inner.NumberSet.{places_of}
use Rattle.tt_leaf.specs.declared.leaf.Claim.{Claim}
use Rattle.tt_proof_sum.specs.Tables.{Claims, at_node}
use Rattle.tt_proof_sum.proofs.Tables.{priced_places}
use Rattle.tt_proof_sum.proofs.table.Table.claim_targets.Goals as goal

pub returns-in-Prices : goal.returns-in-Prices
returns-in-Prices c =
    let a = c.args.self.now in
    let b = c.claim_capacities.new.self in
    let n = c.args.node in
    subst (λ (x : Claim). Claims a (at_node n (places_of x)) b) (sym c.in-Prices.is)
    (subst (λ (xs : List (ℕ × ℕ)). Claims a xs b) (ap (flat_map (λ (k : ℕ × ℕ). (n, 4 * k.0) ∷ [])) c.as_slice.ensures
    ∙ priced_places n c.in-Prices.courses) c.claim_capacities.ensures)
