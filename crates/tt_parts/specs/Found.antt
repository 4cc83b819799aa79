-- The properties of parts that were found.
use Rattle.std.specs.Prelude.{List, [], ℕ, ◌<◌, ◌^◌, Vec, map}
use Rattle.tt_instance.specs.Problem.{Problem}
use Rattle.tt_path.specs.declared.facts.Fact.{Fact}
use Rattle.tt_proof_check.specs.Derives.{HoldsOn}
use Rattle.tt_leaf.specs.declared.leaf.Bound.{Bound}
use Rattle.tt_proof_sum.specs.Faults.{IsSumStopOn, IsUnfinished, all_points}
use Rattle.tt_proof_sum.specs.Sums.{IsSumOn}
use Rattle.tt_proof_sum.specs.declared.fault.FileFault.{FileFault}
use Rattle.tt_text.specs.declared.stop.Stop.TheVariants.{Fault}
use Rattle.tt_parts.specs.declared.finding.Parts.{Parts}

-- The bytes of each text.
abbrev pub texts_of : {A : Type 0} → List (Vec ℕ A) → List (List ℕ)
texts_of proofs = map (λ v. v.items) proofs

-- Each text spells a tree that derives its bound with these facts at its root, or claims that are bounds of their groups; no target is claimed by
-- two of them, and the bound is the sum, which holds for every feasible timetable that fits the facts.
pub record AreFoundOn (p : Problem) (root : List Fact) (k : Parts) : Type 0 where
  pub sum : IsSumOn p root (texts_of k.proofs.items) k.bound
  pub holds : HoldsOn p k.bound root

-- `AreFoundOn` without facts at the roots.
abbrev pub AreFound : Problem → Parts → Type 0
AreFound p k = AreFoundOn p [] k

-- One of the texts can't be added to those before it: this is the first fault of the first such text. If all texts have a sum below 2^64, then
-- the fault is that the check of a claim wasn't finished.
pub record AreRefusedOn (p : Problem) (root : List Fact) (texts : List (List ℕ)) : Type 0 where
  pub file : ℕ
  pub fault : FileFault
  pub is : IsSumStopOn p root texts file (Fault fault)
  pub left_open : (b : Bound) (h : IsSumOn p root texts b) → all_points h.parts < 2 ^ 64 → IsUnfinished fault
