-- Runs of a search that nothing ends.
use Rattle.std.proofs.Common.{ℕ, List, inl, inr, subst}
use Rattle.tt_instance.specs.Problem.{Problem}
use Rattle.tt_instance.specs.declared.cell.Cell.{Cell}
use Rattle.tt_search.specs.Runs.{Runs, RunsUntil}

-- if nothing can end the search, all runs were made
pub all_runs : (p : Problem) (t : List Cell) (draws steps runs : ℕ) (last : List Cell) → RunsUntil p t draws steps runs ⊥ last
    → Runs p t draws steps runs last
all_runs p t draws steps runs last r = elim r.all [
  | inl all ↦ subst (λ (n : ℕ). Runs p t draws steps n last) all r.in_runs
  | inr never ↦ absurd never
]
