-- Solutions that may be given with an instance.
use Rattle.std.specs.Prelude.{◌≡◌, ℕ, List, Option, Some, None, Err, IfSome, ⊤}
use Rattle.tt_instance.specs.Problem.{Problem}
use Rattle.tt_instance_read.specs.Reading.{instance_of}
use Rattle.tt_instance.specs.declared.cell.Cell.{Cell}
use Rattle.tt_table.specs.Reading.{solution_of, Fails}
use Rattle.tt_table.specs.Spelling.{SpellsTable}
use Rattle.tt_table.specs.declared.fault.SolutionFault.{SolutionFault}
use Rattle.tt_call_answers.specs.Refusals.{IsFileRefusal}
use Rattle.tt_call_answers.specs.declared.fault.AppFault.{AppFault}
use Rattle.tt_call_answers.specs.declared.fault.AppFault.TheVariants as fault

-- The timetable is that of the solution, if one is given.
abbrev pub IsGiven : Problem → Option (List ℕ) → Option (List Cell) → Type 0
IsGiven p None None = ⊤
IsGiven p (Some solution) (Some t) = SpellsTable p solution t
IsGiven p _ _ = ⊥

-- A solution is given, and it has exactly this fault. Being out of memory says nothing about the solution.
abbrev pub FailsGiven : SolutionFault → Problem → Option (List ℕ) → Type 0
FailsGiven f p None = ⊥
FailsGiven f p (Some solution) = Fails f (solution_of p solution)

-- If a solution is given, it spells a timetable.
abbrev pub SpellsGiven : Problem → Option (List ℕ) → Type 0
SpellsGiven p given = IfSome given (λ solution. (t : List Cell) × SpellsTable p solution t)

-- a refusal reports the instance's error
abbrev pub IsInstanceRefusal : List ℕ → AppFault → Type 0
IsInstanceRefusal i (fault.Instance f) = instance_of i ≡ Err f
IsInstanceRefusal i fault.OutOfMemory = ⊤
IsInstanceRefusal i _ = ⊥

-- a refusal reports the first error: the instance's, then that of the solution, if one is given
abbrev pub IsGivenRefusal : List ℕ → Option (List ℕ) → AppFault → Type 0
IsGivenRefusal i None f = IsInstanceRefusal i f
IsGivenRefusal i (Some solution) f = IsFileRefusal i solution f
