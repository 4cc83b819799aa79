-- Sums of proofs, as calls report them.
use Rattle.std.proofs.Common.{ℕ, ◌<◌, ◌^◌, List, refl, subst, inl, inr}
use Rattle.tt_instance.specs.Problem.{Problem}
use Rattle.tt_instance.specs.Spelling.{Spells}
use Rattle.tt_leaf.specs.declared.leaf.Bound.{Bound}
use Rattle.tt_text.specs.Stops.{OnFault}
use Rattle.tt_text.specs.declared.stop.Stop.{Stop}
use Rattle.tt_text.specs.declared.stop.Stop.TheVariants.{Fault, ReadFailed, OutOfMemory}
use Rattle.tt_proof_sum.specs.Faults.{IsUnfinished, all_points}
use Rattle.tt_proof_sum.specs.Sums.{IsSum}
use Rattle.tt_proof_sum.specs.declared.fault.FileFault.{FileFault}
use Rattle.tt_proof_sum.specs.declared.fault.SumStop.{SumStop}
use Rattle.tt_call_answers.specs.FaultMaps.{fault_at_file, fault_from_sum}
use Rattle.tt_call_answers.specs.Refusals.{IsSilentRefusal}
use Rattle.tt_instance_read.proofs.Laws.{spelled_once}

-- a sum that is stopped or left open says nothing against the bytes
pub silent_refusal : (s : SumStop) → OnFault s.stop IsUnfinished → IsSilentRefusal (fault_from_sum s)
silent_refusal s h = on s.file s.stop h
  where
    on : (n : ℕ) (x : Stop FileFault) → OnFault x IsUnfinished → IsSilentRefusal (fault_at_file n x)
    on n (Fault f) h = inr (inr (record { file = n; found = f; is = refl; unfinished = h }))
    on n ReadFailed h = inr (inl (n, refl))
    on n OutOfMemory h = inl refl

-- a sum for the instance that the bytes spell is a sum for the instance that was read
pub record SumHere (p : Problem) (proofs : List (List ℕ)) (b : Bound) : Type 0 where
  pub is : IsSum p proofs b
  pub within : all_points is.parts < 2 ^ 64

pub sum_here : (i : List ℕ) (proofs : List (List ℕ)) (p read : Problem) (b : Bound) → Spells i p → Spells i read
    → (h : IsSum p proofs b) → all_points h.parts < 2 ^ 64 → SumHere read proofs b
sum_here i proofs p read b spells found h within = subst (λ (q : Problem). SumHere q proofs b) (spelled_once i p read spells found)
    (record { is = h; within = within })
