-- The answer of `bound`, from the results of its steps.
use Rattle.std.proofs.Common.{◌≡◌, ℕ, List, [], Option, Some, None, Result, Ok, Err, refl, subst, inl, inr}
use Rattle.std.specs.Prelude.{IfSome}
use Rattle.tt_instance.specs.Problem.{Problem}
use Rattle.tt_instance_read.specs.Reading.{instance_of, Fails}
use Rattle.tt_instance.specs.Spelling.{Spells}
use Rattle.tt_instance_read.specs.declared.fault.InstanceFault.{InstanceFault}
use Rattle.tt_instance_read.specs.declared.fault.InstanceFault.TheVariants as instance
use Rattle.tt_instance_read.proofs.Laws.{is_read, spelled_once}
use Rattle.tt_leaf.specs.declared.leaf.Bound.{Bound}
use Rattle.tt_proof_check.specs.Derives.{HoldsOfAll}
use Rattle.tt_proof_check.specs.Streams.{IsProved, stream_of, IsProofFault}
use Rattle.tt_proof_check.specs.declared.fault.CheckFault.{CheckFault}
use Rattle.tt_text.specs.Stops.{OnFault}
use Rattle.tt_text.specs.declared.stop.Stop.{Stop}
use Rattle.tt_text.specs.declared.stop.Stop.TheVariants.{Fault, ReadFailed, OutOfMemory}
use Rattle.tt_call_checks.specs.Bounded.{IsBoundAnswer, IsBounded, IsBoundRefusal, AnswersBound}
use Rattle.tt_call_answers.specs.FaultMaps.{fault_from_instance, fault_from_check}
use Rattle.tt_call_answers.specs.declared.answer.Answer.{Answer}

-- if the bytes spell an instance, reading it is refused only for being out of memory
pub spelled_memory : (i : List ℕ) (p : Problem) (f : InstanceFault) (b : Bound) → Spells i p → Fails f (instance_of i)
    → AnswersBound (Err (fault_from_instance f)) b
spelled_memory i p instance.OutOfMemory b spells h = inl refl
spelled_memory i p (instance.Ended n) b spells h = let e = is_read i p spells in absurd cc
spelled_memory i p (instance.Expected w n) b spells h = let e = is_read i p spells in absurd cc
spelled_memory i p (instance.NotANumber n) b spells h = let e = is_read i p spells in absurd cc
spelled_memory i p (instance.OverLimit n) b spells h = let e = is_read i p spells in absurd cc
spelled_memory i p (instance.Repeated n) b spells h = let e = is_read i p spells in absurd cc
spelled_memory i p (instance.UnknownCourse n) b spells h = let e = is_read i p spells in absurd cc
spelled_memory i p (instance.OutOfRange n) b spells h = let e = is_read i p spells in absurd cc

-- a property of the bytes, if they are known
pub reported : (q : Option (List ℕ)) (P : List ℕ → Type 0) → ((bytes : List ℕ) → q ≡ Some bytes → P bytes) → IfSome q P
reported None P h = tt
reported (Some bytes) P h = h bytes refl

-- an error of the proof is reported
pub proof_tells : (i : List ℕ) (p : Problem) (q : Option (List ℕ)) (s : Stop CheckFault) → Spells i p
    → OnFault s (λ f. (bytes : List ℕ) → q ≡ Some bytes → IsProofFault p [] (stream_of bytes) f) → IsBoundRefusal i q (fault_from_check s)
proof_tells i p q (Fault f) spells h =
    record { problem = p; spelled = spells; fails = reported q (λ bytes. IsProofFault p [] (stream_of bytes) f) h }
proof_tells i p q ReadFailed spells h = (p, spells)
proof_tells i p q OutOfMemory spells h = tt

abbrev bound_is : Bound → Result Bound CheckFault
bound_is b = Ok b

abbrev no_bound : CheckFault → Result Bound CheckFault
no_bound f = Err f

-- a check that was stopped says nothing about the bytes
pub silent_bound : (s : Stop CheckFault) (b : Bound) → OnFault s (λ f. no_bound f ≡ Ok b) → AnswersBound (Err (fault_from_check s)) b
silent_bound (Fault f) b h = absurd cc
silent_bound ReadFailed b h = inr refl
silent_bound OutOfMemory b h = inl refl

pub ok_bound : (c b : Bound) → bound_is c ≡ bound_is b → c ≡ b
ok_bound c b e = cc

-- a bound that is derived on the instance that the bytes spell is derived on the instance that was read
pub proved_here : (i bytes : List ℕ) (p read : Problem) (b : Bound) → Spells i p → Spells i read → IsProved p [] bytes b
    → IsProved read [] bytes b
proved_here i bytes p read b spells found h = subst (λ (q : Problem). IsProved q [] bytes b) (spelled_once i p read spells found) h

pub bounded : (i : List ℕ) (p : Problem) (q : Option (List ℕ)) (a : Answer) (b : Bound) → Spells i p
    → ((bytes : List ℕ) → q ≡ Some bytes → IsProved p [] bytes b) → HoldsOfAll p b → IsBoundAnswer a b → IsBounded i q a
bounded i p q a b spells proved holds answer =
    record {
      problem = p;
      spelled = spells;
      bound = b;
      proved = reported q (λ bytes. IsProved p [] bytes b) proved;
      holds = holds;
      answer = answer;
    }
