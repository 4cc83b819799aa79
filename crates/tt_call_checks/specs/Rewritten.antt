-- The answer of `upgrade` for the bytes of an instance and of a proof.
use Rattle.std.specs.Prelude.{◌≡◌, ℕ, ◌⊎◌, List, Option, None, Result, Ok, Err, IfSome, IsSomeAnd, ⊤}
use Rattle.tt_instance.specs.Problem.{Problem}
use Rattle.tt_instance_read.specs.Reading.{instance_of}
use Rattle.tt_instance.specs.Spelling.{Spells}
use Rattle.tt_leaf.specs.declared.leaf.Bound.{Bound}
use Rattle.tt_proof_check.specs.Derives.{HoldsOfAll}
use Rattle.tt_proof_check.specs.Streams.{stream_of}
use Rattle.tt_proof_upgrade.specs.Texts.{IsReadUpToFailedRead}
use Rattle.tt_proof_upgrade.specs.Upgrades.{IsUpgraded, IsUpgradeFault}
use Rattle.tt_proof_upgrade.specs.declared.fault.UpgradeFault.{UpgradeFault}
use Rattle.tt_proof_upgrade.specs.declared.fault.UpgradeFault.TheVariants as upgrade
use Rattle.tt_call_checks.specs.Bounded.{IsSpelled}
use Rattle.tt_call_answers.specs.Lines.{bound_line}
use Rattle.tt_call_answers.specs.declared.answer.Answer.{Answer}
use Rattle.tt_call_answers.specs.declared.fault.AppFault.{AppFault}
use Rattle.tt_call_answers.specs.declared.fault.AppFault.TheVariants as fault

-- the line of the bound, and these bytes as the proof's file
pub record IsUpgradeAnswer (a : Answer) (b : Bound) (bytes : List ℕ) : Type 0 where
  pub text : a.out.items ≡ bound_line b
  pub status : a.status ≡ 0
  pub no_table : a.table ≡ None
  pub file : IsSomeAnd a.proof (λ v. v.items ≡ bytes)

-- the proof derives the bound, if its reader reports its bytes, and its tree was written in version 2; the bound holds
pub record IsRewritten (instance : List ℕ) (proof : Option (List ℕ)) (a : Answer) : Type 0 where
  pub problem : Problem
  pub spelled : Spells instance problem
  pub bound : Bound
  pub out : List ℕ
  pub upgraded : IfSome proof (λ bytes. IsUpgraded problem bytes bound out)
  pub holds : HoldsOfAll problem bound
  pub answer : IsUpgradeAnswer a bound out

-- the bytes spell an instance, and those of the proof, read whole, have this error
pub record FailsWhole (instance : List ℕ) (proof : Option (List ℕ)) (f : UpgradeFault) : Type 0 where
  pub problem : Problem
  pub spelled : Spells instance problem
  pub fails : IfSome proof (λ bytes. IsUpgradeFault problem (stream_of bytes) f)

-- a refusal reports the first error: the instance's, then the proof's
abbrev pub IsUpgradeRefusal : List ℕ → Option (List ℕ) → AppFault → Type 0
IsUpgradeRefusal i proof (fault.Instance f) = instance_of i ≡ Err f
IsUpgradeRefusal i proof (fault.Proof f) = FailsWhole i proof (upgrade.Proof f)
IsUpgradeRefusal i proof fault.ProofTooLarge = FailsWhole i proof upgrade.TooLarge
IsUpgradeRefusal i proof fault.ReadFailed = IsSpelled i
IsUpgradeRefusal i proof fault.OutOfMemory = ⊤
IsUpgradeRefusal i proof _ = ⊥

-- the answer is this bound, unless memory runs out, a read of the proof fails or its text grows too large
abbrev pub AnswersUpgrade : Result Answer AppFault → Bound → Type 0
AnswersUpgrade (Ok a) b = a.out.items ≡ bound_line b
AnswersUpgrade (Err f) b = (f ≡ fault.OutOfMemory) ⊎ (f ≡ fault.ReadFailed) ⊎ (f ≡ fault.ProofTooLarge)

-- A read of the proof failed: the bytes spell an instance, and all the bytes of the proof that the source gave before it have been read for the
-- instance.
pub record IsSpelledAndReadUpToFailedRead (instance proof : List ℕ) (left : Option (List ℕ)) : Type 0 where
  pub problem : Problem
  pub spelled : Spells instance problem
  pub explains : IsReadUpToFailedRead problem proof left
