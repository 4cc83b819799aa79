-- The faults of calls hold none of memory or of a failed read.
use Rattle.std.proofs.Common.{ℕ, refl}
use Rattle.tt_text.specs.Stops.{OnFault}
use Rattle.tt_text.specs.declared.stop.Stop.{Stop}
use Rattle.tt_text.specs.declared.stop.Stop.TheVariants.{Fault, ReadFailed, OutOfMemory}
use Rattle.tt_instance_read.specs.declared.fault.InstanceFault.{InstanceFault}
use Rattle.tt_instance_read.specs.declared.fault.InstanceFault.TheVariants as instance
use Rattle.tt_page_text.specs.declared.fault.LabelsFault.{LabelsFault}
use Rattle.tt_page_text.specs.declared.fault.LabelsFault.TheVariants as labels
use Rattle.tt_table.specs.declared.fault.SolutionFault.{SolutionFault}
use Rattle.tt_table.specs.declared.fault.SolutionFault.TheVariants as solution
use Rattle.tt_proof_check.specs.Faults as checks
use Rattle.tt_proof_check.specs.Verdicts as verdicts
use Rattle.tt_proof_check.specs.declared.fault.CheckFault.{CheckFault}
use Rattle.tt_proof_check.specs.declared.fault.CertifyFault.{CertifyFault}
use Rattle.tt_proof_check.specs.declared.fault.CertifyFault.TheVariants as certify
use Rattle.tt_proof_upgrade.specs.Faults as upgrades
use Rattle.tt_proof_upgrade.specs.declared.fault.UpgradeFault.{UpgradeFault}
use Rattle.tt_proof_upgrade.specs.declared.fault.UpgradeFault.TheVariants as upgrade
use Rattle.tt_proof_sum.specs.Faults as sums
use Rattle.tt_proof_sum.specs.declared.fault.FileFault.{FileFault}
use Rattle.tt_proof_sum.specs.declared.fault.SumStop.{SumStop}
use Rattle.tt_call_answers.specs.FaultMaps.{fault_from_instance, fault_from_solution, fault_from_check, fault_from_certify, fault_from_upgrade, fault_from_labels, HoldsNoStop, fault_at_file, fault_from_sum}

pub lower_instance : (f : InstanceFault) → HoldsNoStop (fault_from_instance f)
lower_instance instance.OutOfMemory = tt
lower_instance f = refl

pub lower_solution : (f : SolutionFault) → HoldsNoStop (fault_from_solution f)
lower_solution solution.OutOfMemory = tt
lower_solution f = refl

pub lower_check : (s : Stop CheckFault) → OnFault s checks.HoldsNoStop → HoldsNoStop (fault_from_check s)
lower_check (Fault f) h = h
lower_check ReadFailed h = tt
lower_check OutOfMemory h = tt

pub lower_certify : (s : Stop CertifyFault) → OnFault s verdicts.HoldsNoStop → HoldsNoStop (fault_from_certify s)
lower_certify (Fault (certify.Instance f)) h = h
lower_certify (Fault (certify.Solution f)) h = h
lower_certify (Fault (certify.Proof f)) h = h
lower_certify ReadFailed h = tt
lower_certify OutOfMemory h = tt

pub lower_upgrade : (s : Stop UpgradeFault) → OnFault s upgrades.HoldsNoStop → HoldsNoStop (fault_from_upgrade s)
lower_upgrade (Fault (upgrade.Proof f)) h = h
lower_upgrade (Fault upgrade.TooLarge) h = tt
lower_upgrade ReadFailed h = tt
lower_upgrade OutOfMemory h = tt

pub lower_labels : (f : LabelsFault) → HoldsNoStop (fault_from_labels f)
lower_labels labels.Days = tt
lower_labels labels.Periods = tt
lower_labels labels.OutOfMemory = tt

pub lower_sum : (s : SumStop) → OnFault s.stop sums.HoldsNoStop → HoldsNoStop (fault_from_sum s)
lower_sum s h = on s.file s.stop h
  where
    on : (n : ℕ) (x : Stop FileFault) → OnFault x sums.HoldsNoStop → HoldsNoStop (fault_at_file n x)
    on n (Fault f) h = h
    on n ReadFailed h = tt
    on n OutOfMemory h = tt
