-- The bytes that `report` writes for the bytes of an instance and of a solution.
use Rattle.std.specs.Prelude.{◌≡◌, ℕ, List, Option, Err, ⊤}
use Rattle.std.specs.Io.KnownBytes.{Appends}
use Rattle.tt_instance.specs.Problem.{Problem}
use Rattle.tt_instance_read.specs.Reading.{instance_of}
use Rattle.tt_instance.specs.declared.cell.Cell.{Cell}
use Rattle.tt_report.specs.Reports.{report_text}
use Rattle.tt_text.specs.Sinks.{TakesPart}
use Rattle.tt_table.specs.declared.kind.Kind.{Kind as By}
use Rattle.tt_table.specs.Spelling.{SpellsBoth}
use Rattle.tt_proof_check.specs.Verdicts.{FailsSolution}
use Rattle.tt_call_answers.specs.declared.fault.AppFault.{AppFault}
use Rattle.tt_call_answers.specs.declared.fault.AppFault.TheVariants as fault

-- the report of the timetable was written, and the status reports it
pub record IsReported (instance solution : List ℕ) (by : By) (before after : Option (List ℕ)) (status : ℕ) : Type 0 where
  pub problem : Problem
  pub table : List Cell
  pub both : SpellsBoth instance solution problem table
  pub written : Appends before after (report_text problem table by)
  pub done : status ≡ 0

-- a write failed on the way
pub record IsReportedPartly (instance solution : List ℕ) (by : By) (before after : Option (List ℕ)) : Type 0 where
  pub problem : Problem
  pub table : List Cell
  pub both : SpellsBoth instance solution problem table
  pub part : TakesPart before after (report_text problem table by)

-- a refusal reports the first error: the instance's, then the solution's, then that of a write
abbrev pub IsReportRefusal : List ℕ → List ℕ → By → Option (List ℕ) → Option (List ℕ) → AppFault → Type 0
IsReportRefusal instance solution by before after (fault.Instance f) = instance_of instance ≡ Err f
IsReportRefusal instance solution by before after (fault.Solution f) = FailsSolution instance solution f
IsReportRefusal instance solution by before after fault.OutOfMemory = ⊤
IsReportRefusal instance solution by before after fault.CannotWrite = IsReportedPartly instance solution by before after
IsReportRefusal instance solution by before after _ = ⊥
