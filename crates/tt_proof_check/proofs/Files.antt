-- The bytes of an instance and of a solution, and the results of reading them.
use Rattle.std.proofs.Common.{◌≡◌, ℕ, List, Err, subst}
use Rattle.tt_instance.specs.Problem.{Problem}
use Rattle.tt_instance_read.specs.Reading.{instance_of, Fails}
use Rattle.tt_instance.specs.Spelling.{Spells}
use Rattle.tt_instance.specs.declared.cell.Cell.{Cell}
use Rattle.tt_instance_read.specs.declared.fault.InstanceFault.{InstanceFault}
use Rattle.tt_instance_read.specs.declared.fault.InstanceFault.TheVariants as instance
use Rattle.tt_instance_read.proofs.Laws.{is_read, spelled_instance, spelled_once}
use Rattle.tt_table.specs.Reading.{solution_of, Fails as FailsTable}
use Rattle.tt_table.specs.Spelling.{SpellsBoth, SpellsTable}
use Rattle.tt_table.specs.declared.fault.SolutionFault.{SolutionFault}
use Rattle.tt_table.specs.declared.fault.SolutionFault.TheVariants as solution
use Rattle.tt_table.proofs.EntryLaws.{solution_read}
use Rattle.tt_text.specs.Stops.{OnFault}
use Rattle.tt_proof_check.specs.Verdicts.{stop_from_instance, stop_from_solution, FailsSolution}
use Rattle.tt_proof_check.specs.declared.fault.CertifyFault.{CertifyFault}
use Rattle.tt_proof_check.specs.declared.fault.CertifyFault.TheVariants as fault

-- bytes spell at most one timetable of an instance
pub one_table : (bytes i : List ℕ) (p : Problem) (t u : List Cell) → Spells i p → SpellsTable p bytes t → SpellsTable p bytes u → t ≡ u
one_table bytes i p t u s a b =
    let limits = (spelled_instance i p s).within in
    let e = solution_read p bytes t limits a in
    let f = solution_read p bytes u limits b in
    cc

-- the fault is that of the instance or of the solution
abbrev pub FailsFiles : List ℕ → List ℕ → CertifyFault → Type 0
FailsFiles i s (fault.Instance f) = instance_of i ≡ Err f
FailsFiles i s (fault.Solution f) = FailsSolution i s f
FailsFiles i s (fault.Proof f) = ⊥

-- a fault of the instance is reported
pub tells_instance : (i s : List ℕ) (f : InstanceFault) → Fails f (instance_of i) → OnFault (stop_from_instance f) (FailsFiles i s)
tells_instance i s instance.OutOfMemory h = tt
tells_instance i s f h = h

-- a fault of the solution is reported
pub tells_solution : (i s : List ℕ) (p : Problem) (f : SolutionFault) → Spells i p → FailsTable f (solution_of p s)
    → OnFault (stop_from_solution f) (FailsFiles i s)
tells_solution i s p solution.OutOfMemory spelled h = tt
tells_solution i s p f spelled h = record { problem = p; spelled = spelled; fails = h }

-- if both are spelled, they have no fault
pub files_faultless : (i s : List ℕ) (p : Problem) (t : List Cell) (f : CertifyFault) → SpellsBoth i s p t → FailsFiles i s f → ⊥
files_faultless i s p t (fault.Instance f) both h = let e = is_read i p both.spelled in cc
files_faultless i s p t (fault.Solution f) both h =
    let same : h.problem ≡ p = spelled_once i h.problem p h.spelled both.spelled in
    let e = solution_read p s t (spelled_instance i p both.spelled).within both.solved in
    let g : solution_of p s ≡ Err f = subst (λ (q : Problem). solution_of q s ≡ Err f) same h.fails in
    cc
files_faultless i s p t (fault.Proof f) both h = h
