-- The results of `certify`, and the results that are required.
use Rattle.std.specs.Prelude.{◌≡◌, ℕ, ◌≤◌, List, [], Option, Result, Ok, Err, IfSome, ⊤}
use Rattle.tt_text.specs.Stops.{mapped}
use Rattle.tt_text.specs.declared.stop.Stop.{Stop}
use Rattle.tt_text.specs.declared.stop.Stop.TheVariants.{Fault, OutOfMemory}
use Rattle.tt_instance.specs.Problem.{Problem}
use Rattle.tt_instance_read.specs.Reading.{instance_of}
use Rattle.tt_instance.specs.Spelling.{Spells}
use Rattle.tt_instance.specs.declared.cell.Cell.{Cell}
use Rattle.tt_instance_read.specs.declared.fault.InstanceFault.{InstanceFault}
use Rattle.tt_instance_read.specs.declared.fault.InstanceFault.TheVariants as instance
use Rattle.tt_table.specs.Reading.{solution_of}
use Rattle.tt_table.specs.declared.fault.SolutionFault.{SolutionFault}
use Rattle.tt_table.specs.declared.fault.SolutionFault.TheVariants as solution
use Rattle.tt_rules.specs.Score.{IsScore, IsFeasible}
use Rattle.tt_rules.specs.declared.counts.Score.{Score}
use Rattle.tt_proof_check.specs.Faults as checks
use Rattle.tt_table.specs.Spelling.{SpellsBoth}
use Rattle.tt_proof_check.specs.Headline.{Solves, BreaksARule, Certifies, BoundsAll}
use Rattle.tt_proof_check.specs.Streams.{stream_of, IsProofFault}
use Rattle.tt_proof_check.specs.declared.fault.CheckFault.{CheckFault}
use Rattle.tt_proof_check.specs.declared.fault.Verdict.{Verdict}
use Rattle.tt_proof_check.specs.declared.fault.Verdict.TheVariants.{Yes, Breaks}
use Rattle.tt_proof_check.specs.declared.fault.CertifyFault.{CertifyFault}
use Rattle.tt_proof_check.specs.declared.fault.CertifyFault.TheVariants as fault

-- -- the meaning of a result

-- `Yes` with c and b: what it states about the bytes (about the proof's, if its reader reports them), and what it means
pub record IsYes (instance solution : List ℕ) (proof : Option (List ℕ)) (c b : ℕ) : Type 0 where
  pub solves : Solves instance solution c
  pub certified : IfSome proof (λ bytes. Certifies instance solution bytes c b)
  pub bounds : BoundsAll instance b
  pub within : b ≤ c

-- a hard rule is broken, and this is the score
pub record IsBroken (instance solution : List ℕ) (score : Score) : Type 0 where
  pub breaks : BreaksARule instance solution
  pub score_is : IsScore breaks.problem breaks.table score

-- The verdict is right: `Yes` with a cost and a lower bound, or `Breaks` with the score of a solution that breaks a hard rule.
abbrev pub IsVerdict : List ℕ → List ℕ → Option (List ℕ) → Verdict → Type 0
IsVerdict i s proof (Yes c b) = IsYes i s proof c b
IsVerdict i s proof (Breaks score) = IsBroken i s score

-- -- errors

-- the bytes spell an instance, and those of the solution have this error
pub record FailsSolution (instance solution : List ℕ) (f : SolutionFault) : Type 0 where
  pub problem : Problem
  pub spelled : Spells instance problem
  pub fails : solution_of problem solution ≡ Err f

-- the solution breaks no hard rule, and the proof has this error
pub record FailsProof (instance solution : List ℕ) (proof : Option (List ℕ)) (f : CheckFault) : Type 0 where
  pub problem : Problem
  pub table : List Cell
  pub both : SpellsBoth instance solution problem table
  pub feasible : IsFeasible problem table
  pub fails : IfSome proof (λ bytes. IsProofFault problem [] (stream_of bytes) f)

-- an error is the first one: the instance's, then the solution's, then the proof's
abbrev pub IsFirstFault : List ℕ → List ℕ → Option (List ℕ) → CertifyFault → Type 0
IsFirstFault i s proof (fault.Instance f) = instance_of i ≡ Err f
IsFirstFault i s proof (fault.Solution f) = FailsSolution i s f
IsFirstFault i s proof (fault.Proof f) = FailsProof i s proof f

-- whether the error is one of the instance or the solution
abbrev pub IsFileFault : CertifyFault → Type 0
IsFileFault (fault.Instance f) = ⊤
IsFileFault (fault.Solution f) = ⊤
IsFileFault (fault.Proof f) = ⊥

-- the result is that a hard rule is broken, unless memory runs out
abbrev pub AnswersBroken : Result Verdict (Stop CertifyFault) → Type 0
AnswersBroken (Ok (Yes n m)) = ⊥
AnswersBroken (Ok (Breaks score)) = ⊤
AnswersBroken (Err s) = s ≡ OutOfMemory

-- -- what becomes of the faults below

-- Why there is no verdict after a fault of the reader of instances.
abbrev pub stop_from_instance : InstanceFault → Stop CertifyFault
stop_from_instance instance.OutOfMemory = OutOfMemory
stop_from_instance f = Fault (fault.Instance f)

-- Why there is no verdict after a fault of the reader of solutions.
abbrev pub stop_from_solution : SolutionFault → Stop CertifyFault
stop_from_solution solution.OutOfMemory = OutOfMemory
stop_from_solution f = Fault (fault.Solution f)

-- Why there is no verdict after the check of the proof was stopped.
abbrev pub stop_from_check : Stop CheckFault → Stop CertifyFault
stop_from_check stop = mapped fault.Proof stop

-- The fault holds no fault of memory or of a failed read: these would have stopped the call.
abbrev pub HoldsNoStop : CertifyFault → Type 0
HoldsNoStop (fault.Instance f) = stop_from_instance f ≡ Fault (fault.Instance f)
HoldsNoStop (fault.Solution f) = stop_from_solution f ≡ Fault (fault.Solution f)
HoldsNoStop (fault.Proof f) = checks.HoldsNoStop f
