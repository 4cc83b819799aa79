-- The answer of `inspect` for the bytes of an instance, and of a solution if there is one.
use Rattle.std.specs.Prelude.{◌≡◌, ◌<◌, ◌↔◌, ◌⊎◌, ℕ, List, Option, None, Some, Err}
use Rattle.tt_instance_read.specs.Reading.{instance_of}
use Rattle.tt_instance_read.specs.declared.fault.InstanceFault.{InstanceFault}
use Rattle.tt_table.specs.declared.fault.SolutionFault.{SolutionFault}
use Rattle.tt_proof_check.specs.Verdicts.{FailsSolution}
use Rattle.tt_call_answers.specs.declared.answer.Answer.{Answer}

-- no file is written
pub record IsTextAlone (a : Answer) : Type 0 where
  pub no_table : a.table ≡ None
  pub no_proof : a.proof ≡ None

-- the text gives the reason why a file is refused
pub record IsRefusalText (a : Answer) : Type 0 where
  pub status : a.status ≡ 2
  pub alone : IsTextAlone a

-- the text describes the files
pub record IsFindings (a : Answer) : Type 0 where
  pub status : a.status < 2
  pub alone : IsTextAlone a

-- the bytes spell no instance
abbrev pub SpellNoInstance : List ℕ → Type 0
SpellNoInstance i = (f : InstanceFault) × (instance_of i ≡ Err f)

-- the bytes of the instance spell no instance, or those of the solution spell no timetable of it
abbrev pub SpellNothing : List ℕ → Option (List ℕ) → Type 0
SpellNothing i None = SpellNoInstance i
SpellNothing i (Some s) = SpellNoInstance i ⊎ ((f : SolutionFault) × FailsSolution i s f)

-- the status is 2 exactly if a file can't be read as an instance or a solution
pub record IsInspected (instance : List ℕ) (solution : Option (List ℕ)) (a : Answer) : Type 0 where
  pub refused : (a.status ≡ 2) ↔ SpellNothing instance solution
  pub alone : IsTextAlone a
