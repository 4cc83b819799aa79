-- The result of a search that nothing ends.
use Rattle.std.proofs.Common.{ℕ, Bool, List, Option, inl, inr, subst}
use Rattle.tt_instance.specs.Problem.{Problem}
use Rattle.tt_instance.specs.declared.cell.Cell.{Cell}
use Rattle.tt_path.specs.declared.facts.Fact.{Fact}
use Rattle.tt_leaf.specs.declared.leaf.Bound.{Bound}
use Rattle.tt_proof_read.specs.declared.node.Node.{Node}
use Rattle.tt_branch.specs.Outcomes.{IsOutcome, IsOutcomeUntil}

-- if nothing can end the search, it is one of as many nodes as its limit
pub whole_outcome : (p : Problem) (root : List Fact) (given : Option (List Cell)) (limit : ℕ) (best : Option (List Cell)) (b : Bound)
    (nodes : List Node) (finished : Bool) → IsOutcomeUntil p root given limit ⊥ best b nodes finished
    → IsOutcome p root given limit best b nodes finished
whole_outcome p root given limit best b nodes finished o = elim o.all [
  | inl all ↦ subst (λ (n : ℕ). IsOutcome p root given n best b nodes finished) all o.outcome
  | inr never ↦ absurd never
]
