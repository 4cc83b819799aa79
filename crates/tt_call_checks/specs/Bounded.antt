-- The answer of `bound` for the bytes of an instance and of a proof.
use Rattle.std.specs.Prelude.{◌≡◌, ℕ, ◌⊎◌, List, [], Option, Result, Ok, Err, IfSome, ⊤}
use Rattle.tt_instance.specs.Problem.{Problem}
use Rattle.tt_instance_read.specs.Reading.{instance_of}
use Rattle.tt_instance.specs.Spelling.{Spells}
use Rattle.tt_leaf.specs.declared.leaf.Bound.{Bound}
use Rattle.tt_proof_check.specs.Derives.{HoldsOfAll}
use Rattle.tt_proof_check.specs.Streams.{IsProved, stream_of, IsProofFault}
use Rattle.tt_proof_check.specs.declared.fault.CheckFault.{CheckFault}
use Rattle.tt_call_checks.specs.Checked.{NoFiles}
use Rattle.tt_call_answers.specs.Lines.{bound_line}
use Rattle.tt_call_answers.specs.declared.answer.Answer.{Answer}
use Rattle.tt_call_answers.specs.declared.fault.AppFault.{AppFault}
use Rattle.tt_call_answers.specs.declared.fault.AppFault.TheVariants as fault

-- The answer is the line of this bound, with status 0 and without files.
pub record IsBoundAnswer (a : Answer) (b : Bound) : Type 0 where
  pub text : a.out.items ≡ bound_line b
  pub status : a.status ≡ 0
  pub no_files : NoFiles a

-- the proof derives the bound, if its reader reports its bytes, and the bound holds
pub record IsBounded (instance : List ℕ) (proof : Option (List ℕ)) (a : Answer) : Type 0 where
  pub problem : Problem
  pub spelled : Spells instance problem
  pub bound : Bound
  pub proved : IfSome proof (λ bytes. IsProved problem [] bytes bound)
  pub holds : HoldsOfAll problem bound
  pub answer : IsBoundAnswer a bound

-- the bytes spell an instance, and those of the proof have this error
pub record FailsAlone (instance : List ℕ) (proof : Option (List ℕ)) (f : CheckFault) : Type 0 where
  pub problem : Problem
  pub spelled : Spells instance problem
  pub fails : IfSome proof (λ bytes. IsProofFault problem [] (stream_of bytes) f)

-- the bytes spell an instance
abbrev pub IsSpelled : List ℕ → Type 0
IsSpelled instance = (p : Problem) × Spells instance p

-- a refusal reports the first error: the instance's, then the proof's; the proof is read only if the bytes spell an instance
abbrev pub IsBoundRefusal : List ℕ → Option (List ℕ) → AppFault → Type 0
IsBoundRefusal i proof (fault.Instance f) = instance_of i ≡ Err f
IsBoundRefusal i proof (fault.Proof f) = FailsAlone i proof f
IsBoundRefusal i proof fault.ReadFailed = IsSpelled i
IsBoundRefusal i proof fault.OutOfMemory = ⊤
IsBoundRefusal i proof _ = ⊥

-- whether the instance is refused
abbrev pub IsOfInstance : AppFault → Type 0
IsOfInstance (fault.Instance f) = ⊤
IsOfInstance _ = ⊥

-- the answer is this bound, unless memory runs out or a read of the proof fails
abbrev pub AnswersBound : Result Answer AppFault → Bound → Type 0
AnswersBound (Ok a) b = IsBoundAnswer a b
AnswersBound (Err f) b = (f ≡ fault.OutOfMemory) ⊎ (f ≡ fault.ReadFailed)
