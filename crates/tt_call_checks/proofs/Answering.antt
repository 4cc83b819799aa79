-- The answers of `check` and `bound`, from the results of the checker.
use Rattle.std.proofs.Common.{◌≡◌, ℕ, List, Option, Result, Ok, Err, refl, subst, inl, inr}
use Rattle.std.specs.Prelude.{◌↔◌}
use Rattle.tt_text.specs.Stops.{OnFault}
use Rattle.tt_text.specs.declared.stop.Stop.{Stop}
use Rattle.tt_text.specs.declared.stop.Stop.TheVariants.{Fault, ReadFailed, OutOfMemory}
use Rattle.tt_rules.specs.declared.counts.Score.{Score}
use Rattle.tt_proof_check.specs.Headline.{Solves}
use Rattle.tt_proof_check.specs.declared.fault.Verdict.{Verdict}
use Rattle.tt_proof_check.specs.declared.fault.Verdict.TheVariants.{Yes, Breaks}
use Rattle.tt_proof_check.specs.Verdicts.{IsFirstFault}
use Rattle.tt_proof_check.specs.declared.fault.CertifyFault.{CertifyFault}
use Rattle.tt_proof_check.specs.declared.fault.CertifyFault.TheVariants as certify
use Rattle.tt_call_checks.specs.Checked.{IsCheckRefusal, AnswersYes, IsYesAnswer}
use Rattle.tt_call_answers.specs.FaultMaps.{fault_from_certify}
use Rattle.tt_call_answers.specs.declared.answer.Answer.{Answer}

-- a check that was stopped is reported
pub explains : (i s : List ℕ) (proof : Option (List ℕ)) (x : Stop CertifyFault) → OnFault x (IsFirstFault i s proof)
    → (x ≡ ReadFailed → (c : ℕ) × Solves i s c) → IsCheckRefusal i s proof (fault_from_certify x)
explains i s proof (Fault (certify.Instance f)) h last = h
explains i s proof (Fault (certify.Solution f)) h last = h
explains i s proof (Fault (certify.Proof f)) h last = h
explains i s proof ReadFailed h last = last refl
explains i s proof OutOfMemory h last = tt

abbrev refused : CertifyFault → Result Verdict CertifyFault
refused f = Err f

-- certified files are refused only if memory runs out or a read fails
pub yes_reported : (x : Stop CertifyFault) (c b : ℕ) (Z : Type 0) → OnFault x (λ f. (refused f ≡ Ok (Yes c b)) ↔ Z) → Z
    → AnswersYes (Err (fault_from_certify x)) c b
yes_reported (Fault f) c b Z h z = absurd (let e = h.1 z in cc)
yes_reported ReadFailed c b Z h z = inr refl
yes_reported OutOfMemory c b Z h z = inl refl

abbrev ok_verdict : Verdict → Result Verdict CertifyFault
ok_verdict v = Ok v

abbrev yes : ℕ → ℕ → Result Verdict CertifyFault
yes c b = Ok (Yes c b)

pub yes_is : (v : Verdict) (m k c b : ℕ) → v ≡ Yes m k → ok_verdict v ≡ yes c b → (m ≡ c) × (k ≡ b)
yes_is v m k c b is e = (cc, cc)

pub not_broken : (v : Verdict) (s : Score) (c b : ℕ) → v ≡ Breaks s → ok_verdict v ≡ yes c b → ⊥
not_broken v s c b is e = cc

pub yes_same : (a : Answer) (m k c b : ℕ) → (m ≡ c) × (k ≡ b) → IsYesAnswer a m k → IsYesAnswer a c b
yes_same a m k c b e h = subst (λ (n : ℕ). IsYesAnswer a n b) e.0 (subst (λ (n : ℕ). IsYesAnswer a m n) e.1 h)
