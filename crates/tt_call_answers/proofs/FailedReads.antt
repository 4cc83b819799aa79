-- Only a failed read is reported as one, and only a failed write.
use Rattle.std.proofs.Common.{◌≡◌, ◌∙◌, ℕ, ◌&&◌, Bool, true, false, if◌then◌else◌, List, Some, Result, refl, sym, ap}
use Rattle.std.specs.Prelude.{◌==◌, IsErrAnd, slice_get, slice_index_or}
use Rattle.std.proofs.lemmas.Option.{get_or_from_slice_get}
use Rattle.tt_text.specs.Stops as stops
use Rattle.tt_text.specs.declared.stop.Stop.{Stop}
use Rattle.tt_text.specs.declared.stop.Stop.TheVariants.{Fault, ReadFailed, OutOfMemory}
use Rattle.tt_instance_read.specs.declared.fault.InstanceFault.{InstanceFault}
use Rattle.tt_instance_read.specs.declared.fault.InstanceFault.TheVariants as instance
use Rattle.tt_table.specs.declared.fault.SolutionFault.{SolutionFault}
use Rattle.tt_table.specs.declared.fault.SolutionFault.TheVariants as solution
use Rattle.tt_text.specs.Failures.{is_err_and}
use Rattle.tt_proof_check.specs.declared.fault.CheckFault.{CheckFault}
use Rattle.tt_proof_check.specs.declared.fault.CertifyFault.{CertifyFault}
use Rattle.tt_proof_check.specs.declared.fault.CertifyFault.TheVariants as certify
use Rattle.tt_proof_check.proofs.TextFaults.{same_reads}
use Rattle.tt_proof_sum.specs.Faults as sums
use Rattle.tt_proof_sum.specs.declared.fault.FileFault.{FileFault}
use Rattle.tt_proof_sum.specs.declared.fault.SumStop.{SumStop}
use Rattle.tt_call_answers.specs.declared.fault.AppFault.TheVariants as fault
use Rattle.tt_proof_upgrade.specs.declared.fault.UpgradeFault.{UpgradeFault}
use Rattle.tt_proof_upgrade.specs.declared.fault.UpgradeFault.TheVariants as upgrade
use Rattle.tt_page.specs.Faults as pages
use Rattle.tt_page.specs.declared.fault.PageFault.{PageFault}
use Rattle.tt_page.specs.declared.fault.PageFault.TheVariants as page
use Rattle.tt_page_text.specs.declared.fault.LabelsFault.{LabelsFault}
use Rattle.tt_page_text.specs.declared.fault.LabelsFault.TheVariants as labels
use Rattle.tt_call_answers.specs.Refusals.{is_failed_read, is_failed_write, is_failed_read_at}
use Rattle.tt_call_answers.specs.FaultMaps.{fault_from_instance, fault_from_solution, fault_from_check, fault_from_certify, fault_from_upgrade, fault_from_labels, fault_from_page, fault_at_file, fault_from_sum}
use Rattle.tt_proof_sum.specs.Faults.{read_failed_at as read_failed_below}

pub read_checked : (s : Stop CheckFault) → fault_from_check s ≡ fault.ReadFailed → s ≡ ReadFailed
read_checked (Fault f) e = absurd cc
read_checked ReadFailed e = refl
read_checked OutOfMemory e = absurd cc

pub read_certified : (s : Stop CertifyFault) → fault_from_certify s ≡ fault.ReadFailed → s ≡ ReadFailed
read_certified (Fault (certify.Instance f)) e = absurd cc
read_certified (Fault (certify.Solution f)) e = absurd cc
read_certified (Fault (certify.Proof f)) e = absurd cc
read_certified ReadFailed e = refl
read_certified OutOfMemory e = absurd cc

pub read_upgraded : (s : Stop UpgradeFault) → fault_from_upgrade s ≡ fault.ReadFailed → s ≡ ReadFailed
read_upgraded (Fault (upgrade.Proof f)) e = absurd cc
read_upgraded (Fault upgrade.TooLarge) e = absurd cc
read_upgraded ReadFailed e = refl
read_upgraded OutOfMemory e = absurd cc

-- ---- whether a read or a write has failed, after an error that a call passed on

-- the call reports a failure exactly if the one below it does
pub passed : {A E : Type 0} (r : Result A E) (f : E) (passes : E → Bool) (below before after : Bool) → IsErrAnd r (λ e. e ≡ f)
    → passes f ≡ below → after ≡ (if below then true else before)
    → after ≡ (if is_err_and r passes then true else before)
passed r f passes below before after e is h = same_reads r f passes before before after e
    (h ∙ ap (λ (b : Bool). if b then true else before) (sym is)) refl

-- the error is no failure, and there was none
pub calm : {A E : Type 0} (r : Result A E) (f : E) (passes : E → Bool) (before after : Bool) → IsErrAnd r (λ e. e ≡ f)
    → passes f ≡ false → after ≡ before → after ≡ (if is_err_and r passes then true else before)
calm r f passes before after e quiet h = passed r f passes false before after e quiet h

-- a source that isn't read is as it was
pub unread : {R : Type 0} (failed : R → Bool) (all : List R) (i : ℕ) (r : R) → slice_get all i ≡ Some r
    → failed r ≡ failed (slice_index_or all i r)
unread failed all i r found = ap failed (sym (get_or_from_slice_get all i r r found))

pub check_read : (s : Stop CheckFault) → is_failed_read (fault_from_check s) ≡ stops.is_failed_read s
check_read (Fault f) = refl
check_read ReadFailed = refl
check_read OutOfMemory = refl

pub certify_read : (s : Stop CertifyFault) → is_failed_read (fault_from_certify s) ≡ stops.is_failed_read s
certify_read (Fault (certify.Instance f)) = refl
certify_read (Fault (certify.Solution f)) = refl
certify_read (Fault (certify.Proof f)) = refl
certify_read ReadFailed = refl
certify_read OutOfMemory = refl

pub upgrade_read : (s : Stop UpgradeFault) → is_failed_read (fault_from_upgrade s) ≡ stops.is_failed_read s
upgrade_read (Fault (upgrade.Proof f)) = refl
upgrade_read (Fault upgrade.TooLarge) = refl
upgrade_read ReadFailed = refl
upgrade_read OutOfMemory = refl

and_false : (b : Bool) → false ≡ b && false
and_false true = refl
and_false false = refl

and_true : (b : Bool) → b ≡ b && true
and_true true = refl
and_true false = refl

pub sum_read : (n : ℕ) (s : SumStop) → is_failed_read_at n (fault_from_sum s) ≡ sums.is_failed_read_at n s
sum_read n s = on s.file s.stop
  where
    on : (m : ℕ) (x : Stop FileFault) → is_failed_read_at n (fault_at_file m x) ≡ (m == n) && stops.is_failed_read x
    on m (Fault f) = and_false (m == n)
    on m ReadFailed = and_true (m == n)
    on m OutOfMemory = and_false (m == n)

pub instance_read : (f : InstanceFault) → is_failed_read (fault_from_instance f) ≡ false
instance_read instance.OutOfMemory = refl
instance_read f = refl

pub instance_read_at : (n : ℕ) (f : InstanceFault) → is_failed_read_at n (fault_from_instance f) ≡ false
instance_read_at n instance.OutOfMemory = refl
instance_read_at n f = refl

pub solution_read_at : (n : ℕ) (f : SolutionFault) → is_failed_read_at n (fault_from_solution f) ≡ false
solution_read_at n solution.OutOfMemory = refl
solution_read_at n f = refl

pub labels_read_at : (n : ℕ) (f : LabelsFault) → is_failed_read_at n (fault_from_labels f) ≡ false
labels_read_at n labels.Days = refl
labels_read_at n labels.Periods = refl
labels_read_at n labels.OutOfMemory = refl

pub page_read_at : (n : ℕ) (f : PageFault) → is_failed_read_at n (fault_from_page f) ≡ false
page_read_at n page.Write = refl
page_read_at n page.TooLarge = refl
page_read_at n page.OutOfMemory = refl

pub instance_write : (f : InstanceFault) → is_failed_write (fault_from_instance f) ≡ false
instance_write instance.OutOfMemory = refl
instance_write f = refl

pub solution_write : (f : SolutionFault) → is_failed_write (fault_from_solution f) ≡ false
solution_write solution.OutOfMemory = refl
solution_write f = refl

pub labels_write : (f : LabelsFault) → is_failed_write (fault_from_labels f) ≡ false
labels_write labels.Days = refl
labels_write labels.Periods = refl
labels_write labels.OutOfMemory = refl

pub sum_write : (s : SumStop) → is_failed_write (fault_from_sum s) ≡ false
sum_write s = on s.file s.stop
  where
    on : (m : ℕ) (x : Stop FileFault) → is_failed_write (fault_at_file m x) ≡ false
    on m (Fault f) = refl
    on m ReadFailed = refl
    on m OutOfMemory = refl

pub page_write : (f : PageFault) → is_failed_write (fault_from_page f) ≡ pages.is_failed_write f
page_write page.Write = refl
page_write page.TooLarge = refl
page_write page.OutOfMemory = refl

abbrev stop_at : ℕ → Stop FileFault → SumStop
stop_at n x = record { file = n; stop = x }

-- only a failed read is reported as one
pub read_summed : (s : SumStop) (n : ℕ) → fault_from_sum s ≡ fault.ReadFailedIn n → s ≡ read_failed_below n
read_summed s n e = on s.file s.stop e
  where
    on : (m : ℕ) (x : Stop FileFault) → fault_at_file m x ≡ fault.ReadFailedIn n → stop_at m x ≡ read_failed_below n
    on m (Fault f) e = absurd cc
    on m ReadFailed e = let same : m ≡ n = cc in ap (λ k. stop_at k ReadFailed) same
    on m OutOfMemory e = absurd cc
