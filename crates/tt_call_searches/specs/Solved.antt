-- The answer of `solve` for the bytes of an instance.
use Rattle.std.specs.Prelude.{◌≡◌, ℕ, ◌⊎◌, Bool, List, [], Option, Some, None, Err, All, if◌then◌else◌, is_some, IsSomeAnd, ⊤}
use Rattle.tt_instance.specs.Problem.{Problem}
use Rattle.tt_instance_read.specs.Reading.{instance_of}
use Rattle.tt_instance.specs.Spelling.{Spells}
use Rattle.tt_instance.specs.declared.cell.Cell.{Cell}
use Rattle.tt_table.specs.Spelling.{solution_text}
use Rattle.tt_table.specs.Table.{IsTimetable}
use Rattle.tt_leaf.specs.declared.leaf.Bound.{Bound}
use Rattle.tt_proof_read.specs.declared.node.Node.{Node}
use Rattle.tt_proof_write.specs.Within.{FitsFile, IsNodeIn}
use Rattle.tt_proof_write.specs.Written.{proof_text}
use Rattle.tt_branch.specs.Outcomes.{IsOutcomeUntil}
use Rattle.tt_call_answers.specs.Lines.{solve_line}
use Rattle.tt_call_answers.specs.declared.answer.Answer.{Answer}
use Rattle.tt_call_answers.specs.declared.fault.AppFault.{AppFault}
use Rattle.tt_call_answers.specs.declared.fault.AppFault.TheVariants as fault

-- version 1, unless some claim is of version 2
abbrev pub IsLeastVersion : List Node → ℕ → Type 0
IsLeastVersion nodes v = ((v ≡ 1) × All (IsNodeIn 1) nodes) ⊎ ((v ≡ 2) × ¬ All (IsNodeIn 1) nodes)

-- the text of the proof as its file, in the least version that has its claims
pub record IsProofFile (b : Bound) (nodes : List Node) (bytes : List ℕ) : Type 0 where
  pub version : ℕ
  pub least : IsLeastVersion nodes version
  pub text : bytes ≡ proof_text version b nodes

-- the text of the proof is longer than a file may be, in some version
pub record IsOverLong (b : Bound) (nodes : List Node) : Type 0 where
  pub version : ℕ
  pub large : ¬ FitsFile version b nodes

-- the text of the best timetable; if there is none, that of a timetable which may break hard rules
abbrev pub IsTableText : Problem → Option (List Cell) → List ℕ → Type 0
IsTableText p (Some t) bytes = bytes ≡ solution_text p t
IsTableText p None bytes = (t : List Cell) × IsTimetable p t × (bytes ≡ solution_text p t)

-- the line of a search, its status, and its files: that of a timetable, and that of the proof
pub record IsSearchAnswer (p : Problem) (best : Option (List Cell)) (b : Bound) (nodes : List Node) (finished : Bool) (a : Answer) : Type 0 where
  pub text : a.out.items ≡ solve_line p best b finished
  pub status : a.status ≡ (if is_some best then 0 else 1)
  pub table : IsSomeAnd a.table (λ v. IsTableText p best v.items)
  pub proof : IsSomeAnd a.proof (λ v. IsProofFile b nodes v.items)

-- The answer is that of a search on the spelled instance that opens at most this many nodes; it opens all of them, unless each is closed before
-- or the search was ended.
pub record IsSolved (instance : List ℕ) (limit : ℕ) (ended : Type 0) (a : Answer) : Type 0 where
  pub problem : Problem
  pub spelled : Spells instance problem
  pub best : Option (List Cell)
  pub bound : Bound
  pub nodes : List Node
  pub finished : Bool
  pub outcome : IsOutcomeUntil problem [] None limit ended best bound nodes finished
  pub answer : IsSearchAnswer problem best bound nodes finished a

-- the proof of such a search is larger than a file may be
pub record IsTooLarge (instance : List ℕ) (limit : ℕ) (ended : Type 0) : Type 0 where
  pub problem : Problem
  pub spelled : Spells instance problem
  pub best : Option (List Cell)
  pub bound : Bound
  pub nodes : List Node
  pub finished : Bool
  pub outcome : IsOutcomeUntil problem [] None limit ended best bound nodes finished
  pub large : IsOverLong bound nodes

-- a refusal reports the instance's error, or that the proof is too large
abbrev pub IsSolveRefusal : List ℕ → ℕ → Type 0 → AppFault → Type 0
IsSolveRefusal i limit ended (fault.Instance f) = instance_of i ≡ Err f
IsSolveRefusal i limit ended fault.ProofTooLarge = IsTooLarge i limit ended
IsSolveRefusal i limit ended fault.OutOfMemory = ⊤
IsSolveRefusal i limit ended _ = ⊥
