-- The answer of `upgrade`, from the results of its steps.
use Rattle.std.proofs.Common.{◌≡◌, ℕ, List, Option, Some, Err, refl, inl, inr}
use Rattle.tt_instance.specs.Problem.{Problem}
use Rattle.tt_instance.specs.Spelling.{Spells}
use Rattle.tt_leaf.specs.declared.leaf.Bound.{Bound}
use Rattle.tt_proof_check.specs.Derives.{HoldsOfAll}
use Rattle.tt_proof_check.specs.Streams.{stream_of}
use Rattle.tt_text.specs.Stops.{OnFault}
use Rattle.tt_text.specs.declared.stop.Stop.{Stop}
use Rattle.tt_text.specs.declared.stop.Stop.TheVariants.{Fault, ReadFailed, OutOfMemory}
use Rattle.tt_proof_upgrade.specs.Upgrades.{IsUpgraded, IsUpgradeFault}
use Rattle.tt_proof_upgrade.specs.declared.fault.UpgradeFault.{UpgradeFault}
use Rattle.tt_proof_upgrade.specs.declared.fault.UpgradeFault.TheVariants as upgrade
use Rattle.tt_call_checks.specs.Bounded.{AnswersBound}
use Rattle.tt_call_checks.specs.Rewritten.{IsUpgradeAnswer, IsRewritten, FailsWhole, IsUpgradeRefusal, AnswersUpgrade}
use Rattle.tt_call_answers.specs.FaultMaps.{fault_from_upgrade}
use Rattle.tt_call_answers.specs.declared.answer.Answer.{Answer}
use Rattle.tt_call_answers.specs.declared.fault.AppFault.{AppFault}
use Rattle.tt_call_checks.proofs.DerivedBounds.{reported}

-- an error that `bound` may return instead of a bound may be returned by `upgrade`
pub as_bound : (f : AppFault) (b : Bound) → AnswersBound (Err f) b → AnswersUpgrade (Err f) b
as_bound f b (inl e) = inl e
as_bound f b (inr e) = inr (inl e)

module _ (i : List ℕ) (p : Problem) (q : Option (List ℕ)) (spells : Spells i p) where
  whole : (f : UpgradeFault) → ((bytes : List ℕ) → q ≡ Some bytes → IsUpgradeFault p (stream_of bytes) f) → FailsWhole i q f
  whole f h = record { problem = p; spelled = spells; fails = reported q (λ bytes. IsUpgradeFault p (stream_of bytes) f) h }

  -- an upgrade that was stopped is reported
  pub upgrade_tells : (s : Stop UpgradeFault) → OnFault s (λ f. (bytes : List ℕ) → q ≡ Some bytes → IsUpgradeFault p (stream_of bytes) f)
      → IsUpgradeRefusal i q (fault_from_upgrade s)
  upgrade_tells (Fault (upgrade.Proof f)) h = whole (upgrade.Proof f) h
  upgrade_tells (Fault upgrade.TooLarge) h = whole upgrade.TooLarge h
  upgrade_tells ReadFailed h = (p, spells)
  upgrade_tells OutOfMemory h = tt

  pub rewritten : (a : Answer) (b : Bound) (out : List ℕ) → ((bytes : List ℕ) → q ≡ Some bytes → IsUpgraded p bytes b out)
      → HoldsOfAll p b → IsUpgradeAnswer a b out → IsRewritten i q a
  rewritten a b out h holds answer =
      record {
        problem = p;
        spelled = spells;
        bound = b;
        out = out;
        upgraded = reported q (λ bytes. IsUpgraded p bytes b out) h;
        holds = holds;
        answer = answer;
      }

-- an upgrade that was stopped, or whose text grew too large, says nothing against the proof
pub silent_upgrade : (s : Stop UpgradeFault) (b : Bound) → OnFault s (λ f. f ≡ upgrade.TooLarge)
    → AnswersUpgrade (Err (fault_from_upgrade s)) b
silent_upgrade (Fault (upgrade.Proof f)) b h = absurd cc
silent_upgrade (Fault upgrade.TooLarge) b h = inr (inr refl)
silent_upgrade ReadFailed b h = inr (inl refl)
silent_upgrade OutOfMemory b h = inl refl
