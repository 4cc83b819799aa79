-- The answer of `validate` for the bytes of an instance and of a solution.
use Rattle.std.specs.Prelude.{◌≡◌, ℕ, ◌+◌, ◌==◌, ◌++◌, if◌then◌else◌, List, None, codes}
use Rattle.tt_instance.specs.Problem.{Problem}
use Rattle.tt_instance.specs.declared.cell.Cell.{Cell}
use Rattle.tt_rules.specs.Score.{hard}
use Rattle.tt_rules.specs.declared.counts.Score.{Score}
use Rattle.tt_table.specs.Spelling.{SpellsBoth}
use Rattle.tt_call_answers.specs.Lines.{count_line, score_text}
use Rattle.tt_call_answers.specs.declared.answer.Answer.{Answer}

-- the ten lines of a score
abbrev pub score_lines : Score → List ℕ
score_lines s =
    count_line (codes "lectures") s.lectures
    ++ count_line (codes "conflicts") s.conflicts
    ++ count_line (codes "availability") s.availability
    ++ count_line (codes "room_occupancy") s.room_occupancy
    ++ count_line (codes "room_capacity") s.room_capacity
    ++ count_line (codes "min_working_days") s.min_working_days
    ++ count_line (codes "compactness") s.compactness
    ++ count_line (codes "room_stability") s.room_stability
    ++ count_line (codes "hard") (s.lectures + s.conflicts + s.availability + s.room_occupancy)
    ++ count_line (codes "cost") (s.room_capacity + s.min_working_days + s.compactness + s.room_stability)

-- the answer has the lines of a score and its status, and no file
pub record IsScoreAnswer (s : Score) (a : Answer) : Type 0 where
  pub text : a.out.items ≡ score_lines s
  pub status : a.status ≡ (if s.lectures + s.conflicts + s.availability + s.room_occupancy == 0 then 0 else 1)
  pub no_table : a.table ≡ None
  pub no_proof : a.proof ≡ None

-- the answer has the timetable's score, and status 1 if a hard rule is broken
pub record IsValidated (instance solution : List ℕ) (a : Answer) : Type 0 where
  pub problem : Problem
  pub table : List Cell
  pub both : SpellsBoth instance solution problem table
  pub text : a.out.items ≡ score_text problem table
  pub status : a.status ≡ (if hard problem table == 0 then 0 else 1)
  pub no_table : a.table ≡ None
  pub no_proof : a.proof ≡ None
