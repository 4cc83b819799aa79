-- The answer of `check` for the bytes of an instance, of a solution and of a proof.
use Rattle.std.specs.Prelude.{◌≡◌, ℕ, ◌+◌, ◌⊎◌, List, Option, None, Result, Ok, Err, ⊤}
use Rattle.tt_proof_check.specs.Headline.{Solves}
use Rattle.tt_proof_check.specs.Verdicts.{IsVerdict, IsFirstFault}
use Rattle.tt_proof_check.specs.declared.fault.CertifyFault.TheVariants as certify
use Rattle.tt_proof_check.specs.declared.fault.Verdict.{Verdict}
use Rattle.tt_proof_check.specs.declared.fault.Verdict.TheVariants.{Yes, Breaks}
use Rattle.tt_call_answers.specs.Lines.{yes_line, broken_line}
use Rattle.tt_call_answers.specs.declared.answer.Answer.{Answer}
use Rattle.tt_call_answers.specs.declared.fault.AppFault.{AppFault}
use Rattle.tt_call_answers.specs.declared.fault.AppFault.TheVariants as fault

-- ---- answers

-- The answer has neither the text of a solution file nor that of a proof file.
abbrev pub NoFiles : Answer → Type 0
NoFiles a = (a.table ≡ None) × (a.proof ≡ None)

-- The answer is the line `yes` with this cost and this bound, with status 0 and without files.
pub record IsYesAnswer (a : Answer) (c b : ℕ) : Type 0 where
  pub text : a.out.items ≡ yes_line c b
  pub status : a.status ≡ 0
  pub no_files : NoFiles a

-- The answer is the line `broken` with this hard count and this cost, with status 1 and without files.
pub record IsBrokenAnswer (a : Answer) (h c : ℕ) : Type 0 where
  pub text : a.out.items ≡ broken_line h c
  pub status : a.status ≡ 1
  pub no_files : NoFiles a

-- The answer is that of the verdict: `yes` with its cost and bound, or `broken` with the hard count and the cost of its score.
abbrev pub IsAnswerOf : Verdict → Answer → Type 0
IsAnswerOf (Yes c b) a = IsYesAnswer a c b
IsAnswerOf (Breaks s) a =
    IsBrokenAnswer a (s.lectures + s.conflicts + s.availability + s.room_occupancy) (s.room_capacity + s.min_working_days + s.compactness + s.room_stability)

-- the answer is that of a right verdict
pub record IsChecked (instance solution : List ℕ) (proof : Option (List ℕ)) (a : Answer) : Type 0 where
  pub verdict : Verdict
  pub is : IsVerdict instance solution proof verdict
  pub answer : IsAnswerOf verdict a

-- ---- refusals

-- a refusal reports the first error: the instance's, then the solution's, then the proof's, which is read only if no hard rule is broken
abbrev pub IsCheckRefusal : List ℕ → List ℕ → Option (List ℕ) → AppFault → Type 0
IsCheckRefusal i s proof (fault.Instance f) = IsFirstFault i s proof (certify.Instance f)
IsCheckRefusal i s proof (fault.Solution f) = IsFirstFault i s proof (certify.Solution f)
IsCheckRefusal i s proof (fault.Proof f) = IsFirstFault i s proof (certify.Proof f)
IsCheckRefusal i s proof fault.ReadFailed = (c : ℕ) × Solves i s c
IsCheckRefusal i s proof fault.OutOfMemory = ⊤
IsCheckRefusal i s proof _ = ⊥

-- whether the instance or the solution is refused
abbrev pub IsFileFault : AppFault → Type 0
IsFileFault (fault.Instance f) = ⊤
IsFileFault (fault.Solution f) = ⊤
IsFileFault _ = ⊥

-- -- required answers

-- the answer is `yes` with c and b, unless memory runs out or a read of the proof fails
abbrev pub AnswersYes : Result Answer AppFault → ℕ → ℕ → Type 0
AnswersYes (Ok a) c b = IsYesAnswer a c b
AnswersYes (Err f) c b = (f ≡ fault.OutOfMemory) ⊎ (f ≡ fault.ReadFailed)

-- the answer is that a hard rule is broken, unless memory runs out
abbrev pub AnswersBroken : Result Answer AppFault → Type 0
AnswersBroken (Ok a) = a.status ≡ 1
AnswersBroken (Err f) = f ≡ fault.OutOfMemory
