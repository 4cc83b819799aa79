-- The answer of `sum` for the bytes of an instance, of proofs, and of a solution if one is given.
use Rattle.std.specs.Prelude.{◌≡◌, ℕ, ◌+◌, ◌≤◌, ◌⊎◌, List, Result, Ok, Err, ⊤}
use Rattle.tt_instance.specs.Problem.{Problem}
use Rattle.tt_instance_read.specs.Reading.{instance_of}
use Rattle.tt_instance.specs.Spelling.{Spells}
use Rattle.tt_instance.specs.declared.cell.Cell.{Cell}
use Rattle.tt_rules.specs.Score.{IsFeasible}
use Rattle.tt_rules.specs.declared.counts.Score.{Score}
use Rattle.tt_leaf.specs.declared.leaf.Bound.{Bound}
use Rattle.tt_proof_check.specs.Derives.{HoldsOfAll}
use Rattle.tt_table.specs.Spelling.{SpellsBoth}
use Rattle.tt_proof_check.specs.Headline.{Solves, BoundsAll}
use Rattle.tt_proof_check.specs.Verdicts.{IsBroken, FailsSolution}
use Rattle.tt_text.specs.declared.stop.Stop.{Stop}
use Rattle.tt_text.specs.declared.stop.Stop.TheVariants.{Fault, ReadFailed}
use Rattle.tt_proof_sum.specs.Faults.{IsSumStop}
use Rattle.tt_proof_sum.specs.Sums.{IsSum}
use Rattle.tt_proof_sum.specs.declared.fault.FileFault.{FileFault}
use Rattle.tt_call_checks.specs.Bounded.{IsBoundAnswer}
use Rattle.tt_call_checks.specs.Checked.{IsYesAnswer, IsBrokenAnswer}
use Rattle.tt_call_answers.specs.Refusals.{IsSilentRefusal}
use Rattle.tt_call_answers.specs.Sums.{CertifiesSum}
use Rattle.tt_call_answers.specs.declared.answer.Answer.{Answer}
use Rattle.tt_call_answers.specs.declared.fault.AppFault.{AppFault}
use Rattle.tt_call_answers.specs.declared.fault.AppFault.TheVariants as fault

-- ---- the bound alone

-- the proofs derive the bound together, if their readers give these bytes, and it holds
pub record IsSummed (instance : List ℕ) (gives : List (List ℕ) → Type 0) (a : Answer) : Type 0 where
  pub problem : Problem
  pub spelled : Spells instance problem
  pub bound : Bound
  pub sum : (proofs : List (List ℕ)) → gives proofs → IsSum problem proofs bound
  pub holds : HoldsOfAll problem bound
  pub answer : IsBoundAnswer a bound

-- the bytes spell an instance, and the sum of the proofs is stopped at this file
pub record FailsSum (instance : List ℕ) (gives : List (List ℕ) → Type 0) (n : ℕ) (stop : Stop FileFault) : Type 0 where
  pub problem : Problem
  pub spelled : Spells instance problem
  pub fails : (proofs : List (List ℕ)) → gives proofs → IsSumStop problem proofs n stop

-- a refusal reports the first error: the instance's, then that of the first proof that is refused
abbrev pub IsSumRefusal : List ℕ → (List (List ℕ) → Type 0) → AppFault → Type 0
IsSumRefusal i gives (fault.Instance f) = instance_of i ≡ Err f
IsSumRefusal i gives (fault.Sum n f) = FailsSum i gives n (Fault f)
IsSumRefusal i gives (fault.ReadFailedIn n) = FailsSum i gives n ReadFailed
IsSumRefusal i gives fault.OutOfMemory = ⊤
IsSumRefusal i gives _ = ⊥

-- the answer is this bound, unless the refusal says nothing about the bytes
abbrev pub AnswersSum : Result Answer AppFault → Bound → Type 0
AnswersSum (Ok a) b = IsBoundAnswer a b
AnswersSum (Err f) b = IsSilentRefusal f

-- -- with a solution

-- `yes` with c and b: what it states about the bytes, and what it means
pub record IsSumYes (instance solution : List ℕ) (gives : List (List ℕ) → Type 0) (c b : ℕ) : Type 0 where
  pub solves : Solves instance solution c
  pub certified : (proofs : List (List ℕ)) → gives proofs → CertifiesSum instance solution proofs c b
  pub bounds : BoundsAll instance b
  pub within : b ≤ c

-- The answer is `yes` with the cost of the solution and the bound that the proofs derive together.
pub record IsYesOfSum (instance solution : List ℕ) (gives : List (List ℕ) → Type 0) (a : Answer) : Type 0 where
  pub cost : ℕ
  pub bound : ℕ
  pub is : IsSumYes instance solution gives cost bound
  pub answer : IsYesAnswer a cost bound

-- The answer is `broken`, the solution breaks a hard rule, and the hard count and the cost are those of its score.
pub record IsBrokenOfSum (instance solution : List ℕ) (a : Answer) : Type 0 where
  pub score : Score
  pub is : IsBroken instance solution score
  pub answer : IsBrokenAnswer a (score.lectures + score.conflicts + score.availability + score.room_occupancy) (score.room_capacity + score.min_working_days + score.compactness + score.room_stability)

-- the answer is `yes`, or that a hard rule is broken, and it is right
abbrev pub IsSumChecked : List ℕ → List ℕ → (List (List ℕ) → Type 0) → Answer → Type 0
IsSumChecked i s gives a = IsYesOfSum i s gives a ⊎ IsBrokenOfSum i s a

-- the solution breaks no hard rule, and the sum of the proofs is stopped at this file
pub record FailsSumOfBoth (instance solution : List ℕ) (gives : List (List ℕ) → Type 0) (n : ℕ) (stop : Stop FileFault) : Type 0 where
  pub problem : Problem
  pub table : List Cell
  pub both : SpellsBoth instance solution problem table
  pub feasible : IsFeasible problem table
  pub fails : (proofs : List (List ℕ)) → gives proofs → IsSumStop problem proofs n stop

-- a refusal reports the first error: the instance's, then the solution's, then that of the first proof that is refused
abbrev pub IsSumCheckFault : List ℕ → List ℕ → (List (List ℕ) → Type 0) → AppFault → Type 0
IsSumCheckFault i s gives (fault.Instance f) = instance_of i ≡ Err f
IsSumCheckFault i s gives (fault.Solution f) = FailsSolution i s f
IsSumCheckFault i s gives (fault.Sum n f) = FailsSumOfBoth i s gives n (Fault f)
IsSumCheckFault i s gives (fault.ReadFailedIn n) = FailsSumOfBoth i s gives n ReadFailed
IsSumCheckFault i s gives fault.OutOfMemory = ⊤
IsSumCheckFault i s gives _ = ⊥

-- the answer is `yes` with c and b, unless the refusal says nothing about the bytes
abbrev pub AnswersSumYes : Result Answer AppFault → ℕ → ℕ → Type 0
AnswersSumYes (Ok a) c b = IsYesAnswer a c b
AnswersSumYes (Err f) c b = IsSilentRefusal f
