-- Texts in memory that can't be added up: no read of them fails, so that one of them has a fault.
use Rattle.std.proofs.Common.{◌≡◌, ℕ, ◌+◌, ◌<◌, ◌^◌, ◌&&◌, Bool, true, false, if◌then◌else◌, List, ◌∷◌, length, length-append, Option, Some, None, Result, Ok, Err, refl, ap, subst, ◌∙◌, arith, eq-eqb, inl, inr}
use Rattle.std.specs.Prelude.{IfNone, IfOk, IfSome, OnOk, slice_get}
use Rattle.std.proofs.lemmas.Option.{slice_get_cases}
use Rattle.tt_instance.specs.Problem.{Problem}
use Rattle.tt_leaf.specs.declared.leaf.Bound.{Bound}
use Rattle.tt_list_laws.proofs.Zipped.{zip_length}
use Rattle.tt_path.specs.declared.facts.Fact.{Fact}
use Rattle.tt_proof_sum.specs.Faults.{IsSumStopOn, IsUnfinished, all_points, is_failed_read_at}
use Rattle.tt_proof_sum.specs.Sums.{IsPartOn, IsSumOn}
use Rattle.tt_proof_sum.specs.declared.fault.FileFault.{FileFault}
use Rattle.tt_proof_sum.specs.declared.fault.SumStop.{SumStop}
use Rattle.tt_text.specs.Stops as stops
use Rattle.tt_text.specs.Stops.{OnFault}
use Rattle.tt_text.specs.declared.stop.Stop.{Stop}
use Rattle.tt_text.specs.declared.stop.Stop.TheVariants.{Fault, ReadFailed, OutOfMemory}
use Rattle.tt_parts.specs.Found.{AreRefusedOn}

-- no value was found
pub no_some : {A E : Type 0} (r : Result (Option A) E) (P : A → Type 0) → IfOk r (λ o. o ≡ None) → IfOk r (λ o. IfSome o P)
no_some (Err e) P h = tt
no_some (Ok None) P h = tt
no_some (Ok (Some x)) P h = absurd cc

-- what holds of every result holds of none
pub none_by : {A E P Q : Type 0} (r : Result (Option A) E) → (P → Q) → OnOk r P → IfOk r (λ o. IfNone o Q)
none_by (Err e) f h = tt
none_by (Ok None) f h = f h
none_by (Ok (Some x)) f h = tt

module _ (p : Problem) (root : List Fact) (files : List (List ℕ)) where
  -- a stop that is neither memory nor a read is the fault of a file
  pub refused_by : (n : ℕ) (s : Stop FileFault) → IsSumStopOn p root files n s → (s ≡ ReadFailed → ⊥)
      → ((b : Bound) (h : IsSumOn p root files b) → all_points h.parts < 2 ^ 64 → OnFault s IsUnfinished) → (s ≡ OutOfMemory → ⊥)
      → AreRefusedOn p root files
  refused_by n (Fault f) is unread left memory = record { file = n; fault = f; is = is; left_open = left }
  refused_by n ReadFailed is unread left memory = absurd (unread refl)
  refused_by n OutOfMemory is unread left memory = absurd (memory refl)

  -- sources of which none has failed report no failed read
  pub unread : {R : Type 0} (e : SumStop) (new : List R) → length new ≡ length files → IsSumStopOn p root files e.file e.stop
      → ((i : ℕ) (r : R) → slice_get new i ≡ Some r → false ≡ (if is_failed_read_at (i + 1) e then true else false))
      → e.stop ≡ ReadFailed → ⊥
  unread e new long stopped calm same =
      let reached = subst (λ (s : Stop FileFault). IsSumStopOn p root files e.file s) same stopped in
      let i = length reached.parts in
      let all = ap length reached.split ∙ length-append reached.before (reached.bytes ∷ reached.more) in
      let each = zip_length (IsPartOn p root) reached.before reached.parts reached.each in
      let is : is_failed_read_at (i + 1) e ≡ true =
      ap (λ (b : Bool). b && stops.is_failed_read e.stop) (eq-eqb e.file (i + 1) reached.numbered) ∙ ap stops.is_failed_read same in
      elim (slice_get_cases new i).1 [
        | inl (x, inside, found, at) ↦
            let wrong : false ≡ true = calm i x found ∙ ap (λ (b : Bool). if b then true else false) is in
            absurd cc
        | inr (past, none) ↦ absurd (omega (arith, past, long, all, each))
      ]
