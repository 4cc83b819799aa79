-- Refusals that the contracts of several calls name.
use Rattle.std.specs.Prelude.{◌≡◌, ◌==◌, ℕ, List, Err, ⊤, ◌⊎◌, Bool, false, true}
use Rattle.tt_instance_read.specs.Reading.{instance_of}
use Rattle.tt_proof_check.specs.Verdicts.{FailsSolution}
use Rattle.tt_call_answers.specs.declared.fault.AppFault.{AppFault}
use Rattle.tt_call_answers.specs.declared.fault.AppFault.TheVariants as fault
use Rattle.tt_proof_sum.specs.Faults.{IsUnfinished}
use Rattle.tt_proof_sum.specs.declared.fault.FileFault.{FileFault}

-- a refusal reports the first error: the instance's, then the solution's
abbrev pub IsFileRefusal : List ℕ → List ℕ → AppFault → Type 0
IsFileRefusal instance solution (fault.Instance f) = instance_of instance ≡ Err f
IsFileRefusal instance solution (fault.Solution f) = FailsSolution instance solution f
IsFileRefusal instance solution fault.OutOfMemory = ⊤
IsFileRefusal instance solution _ = ⊥

-- whether an error is a failed read of the proof
abbrev pub is_failed_read : AppFault → Bool
is_failed_read fault.ReadFailed = true
is_failed_read _ = false

-- whether an error is a failed read of this proof
abbrev pub is_failed_read_at : ℕ → AppFault → Bool
is_failed_read_at n (fault.ReadFailedIn m) = m == n
is_failed_read_at n _ = false

-- The check of a group, in this file of groups, was not finished.
pub record IsGivenUp (f : AppFault) : Type 0 where
  pub file : ℕ
  pub found : FileFault
  pub is : f ≡ fault.Sum file found
  pub unfinished : IsUnfinished found

-- whether memory ran out, a read of a file failed, or the check of a group was not finished
abbrev pub IsSilentRefusal : AppFault → Type 0
IsSilentRefusal f = (f ≡ fault.OutOfMemory) ⊎ (((n : ℕ) × (f ≡ fault.ReadFailedIn n)) ⊎ IsGivenUp f)

-- whether an error is a failed write
abbrev pub is_failed_write : AppFault → Bool
is_failed_write fault.CannotWrite = true
is_failed_write _ = false

-- whether no write was tried, or memory ran out before the first write
abbrev pub IsUnwritten : AppFault → Type 0
IsUnwritten fault.CannotWrite = ⊥
IsUnwritten _ = ⊤
