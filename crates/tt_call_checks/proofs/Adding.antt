-- The answer of `sum`, from the results of its steps.
use Rattle.std.proofs.Common.{ℕ, List, Err, refl, inl}
use Rattle.tt_instance.specs.Problem.{Problem}
use Rattle.tt_instance_read.specs.Reading.{instance_of, Fails}
use Rattle.tt_instance.specs.Spelling.{Spells}
use Rattle.tt_instance_read.specs.declared.fault.InstanceFault.{InstanceFault}
use Rattle.tt_instance_read.specs.declared.fault.InstanceFault.TheVariants as instance
use Rattle.tt_instance_read.proofs.Laws.{is_read}
use Rattle.tt_leaf.specs.declared.leaf.Bound.{Bound}
use Rattle.tt_text.specs.declared.stop.Stop.{Stop}
use Rattle.tt_text.specs.declared.stop.Stop.TheVariants.{Fault, ReadFailed, OutOfMemory}
use Rattle.tt_proof_sum.specs.Faults.{IsSumStop}
use Rattle.tt_proof_sum.specs.declared.fault.FileFault.{FileFault}
use Rattle.tt_proof_sum.specs.declared.fault.SumStop.{SumStop}
use Rattle.tt_call_checks.specs.Summed.{IsSumRefusal, AnswersSum}
use Rattle.tt_call_answers.specs.FaultMaps.{fault_at_file, fault_from_sum, fault_from_instance}

-- if the bytes spell an instance, reading it is refused only for being out of memory
pub spelled_memory : (i : List ℕ) (p : Problem) (f : InstanceFault) (b : Bound) → Spells i p → Fails f (instance_of i)
    → AnswersSum (Err (fault_from_instance f)) b
spelled_memory i p instance.OutOfMemory b spells h = inl refl
spelled_memory i p (instance.Ended n) b spells h = let e = is_read i p spells in absurd cc
spelled_memory i p (instance.Expected w n) b spells h = let e = is_read i p spells in absurd cc
spelled_memory i p (instance.NotANumber n) b spells h = let e = is_read i p spells in absurd cc
spelled_memory i p (instance.OverLimit n) b spells h = let e = is_read i p spells in absurd cc
spelled_memory i p (instance.Repeated n) b spells h = let e = is_read i p spells in absurd cc
spelled_memory i p (instance.UnknownCourse n) b spells h = let e = is_read i p spells in absurd cc
spelled_memory i p (instance.OutOfRange n) b spells h = let e = is_read i p spells in absurd cc

-- a sum that was stopped is reported
pub sum_tells : (i : List ℕ) (p : Problem) (gives : List (List ℕ) → Type 0) (s : SumStop) → Spells i p
    → ((proofs : List (List ℕ)) → gives proofs → IsSumStop p proofs s.file s.stop) → IsSumRefusal i gives (fault_from_sum s)
sum_tells i p gives s spells h = on s.file s.stop h
  where
    on : (n : ℕ) (x : Stop FileFault) → ((proofs : List (List ℕ)) → gives proofs → IsSumStop p proofs n x)
        → IsSumRefusal i gives (fault_at_file n x)
    on n (Fault f) h = record { problem = p; spelled = spells; fails = h }
    on n ReadFailed h = record { problem = p; spelled = spells; fails = h }
    on n OutOfMemory h = tt
