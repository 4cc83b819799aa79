-- The answer of `validate`, from the results of its steps.
use Rattle.std.proofs.Common.{◌≡◌, ℕ, List, refl, ◌∙◌}
use Rattle.tt_instance.specs.Problem.{Problem}
use Rattle.tt_instance.specs.Spelling.{Spells}
use Rattle.tt_instance.specs.declared.cell.Cell.{Cell}
use Rattle.tt_table.specs.Spelling.{SpellsTable}
use Rattle.tt_rules.specs.Score.{IsScore}
use Rattle.tt_rules.specs.declared.counts.Score.{Score}
use Rattle.tt_rules.proofs.Scores.{hard_is}
use Rattle.tt_call_answers.specs.Lines.{score_text}
use Rattle.tt_call_checks.specs.Validated.{score_lines, IsScoreAnswer, IsValidated}
use Rattle.tt_call_answers.specs.declared.answer.Answer.{Answer}

-- the lines of a timetable's score
pub lines_are : (p : Problem) (t : List Cell) (s : Score) → IsScore p t s → score_lines s ≡ score_text p t
lines_are p t s is =
    rw (
      is.lectures,
      is.conflicts,
      is.availability,
      is.room_occupancy,
      is.room_capacity,
      is.min_working_days,
      is.compactness,
      is.room_stability,
    ) refl

pub validated : (i s : List ℕ) (p : Problem) (t : List Cell) (score : Score) (a : Answer) → Spells i p → SpellsTable p s t
    → IsScore p t score → IsScoreAnswer score a → IsValidated i s a
validated i s p t score a spelled solved is answer = record {
  problem = p;
  table = t;
  both = record { spelled = spelled; solved = solved };
  text = answer.text ∙ lines_are p t score is;
  status = answer.status ∙ rw (hard_is p t score is) refl;
  no_table = answer.no_table;
  no_proof = answer.no_proof;
}
