-- The answer of `validate_wishes`, from the results of its steps.
use Rattle.std.proofs.Common.{◌≡◌, ℕ, ◌++◌, List, refl, ap, ◌∙◌, codes}
use Rattle.tt_instance.specs.Problem.{Problem}
use Rattle.tt_instance.specs.Spelling.{Spells}
use Rattle.tt_instance.specs.declared.cell.Cell.{Cell}
use Rattle.tt_table.specs.Spelling.{SpellsTable}
use Rattle.tt_rules.specs.Score.{IsScore}
use Rattle.tt_rules.specs.declared.counts.Score.{Score}
use Rattle.tt_rules.proofs.Scores.{hard_is}
use Rattle.tt_wishes.specs.Spelling.{SpellsWishes}
use Rattle.tt_wishes.specs.Wishes.{broken_wishes}
use Rattle.tt_wishes.specs.declared.wish.Wish.{Wish}
use Rattle.tt_call_answers.specs.Lines.{count_line}
use Rattle.tt_call_answers.specs.declared.answer.Answer.{Answer}
use Rattle.tt_call_checks.proofs.Validating.{lines_are}
use Rattle.tt_call_wishes.specs.Wished.{IsCountedAnswer, IsWishesAnswer}

pub counted : (i s w : List ℕ) (p : Problem) (t : List Cell) (ws : List Wish) (score : Score) (broken : ℕ) (a : Answer) → Spells i p
    → SpellsTable p s t → SpellsWishes p w ws → IsScore p t score → broken ≡ broken_wishes t ws → IsCountedAnswer score broken a
    → IsWishesAnswer i s w a
counted i s w p t ws score broken a spelled solved wished is broken_is answer = record {
  problem = p;
  table = t;
  listed = ws;
  both = record { spelled = spelled; solved = solved };
  spelled = wished;
  text = answer.text ∙ ap (λ (lines : List ℕ). lines ++ count_line (codes "wishes") broken) (lines_are p t score is) ∙ rw broken_is refl;
  status = answer.status ∙ rw (hard_is p t score is, broken_is) refl;
  no_table = answer.no_table;
  no_proof = answer.no_proof;
}
