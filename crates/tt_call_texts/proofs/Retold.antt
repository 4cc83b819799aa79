-- An answer with the status of another one.
use Rattle.std.proofs.Common.{◌≡◌, ℕ, List, Option, Some, None, Bor, sym, subst}
use Rattle.std.specs.Prelude.{◌↔◌, MatchOption}
use Rattle.tt_call_answers.specs.declared.answer.Answer.{Answer}
use Rattle.tt_call_texts.specs.Inspected.{IsInspected, IsTextAlone, SpellNothing}

retold : (i : List ℕ) (s : Option (List ℕ)) (a b : Answer) → a.status ≡ b.status → IsTextAlone b → IsInspected i s a → IsInspected i s b
retold i s a b same alone is = record {
  refused = subst (λ (n : ℕ). (n ≡ 2) ↔ SpellNothing i s) same is.refused;
  alone = alone;
}

pub retold_given : (i : List ℕ) (s : Option (Bor (List ℕ))) (a b : Answer) → a.status ≡ b.status → IsTextAlone b
    → MatchOption s (IsInspected i None a) (λ x. IsInspected i (Some x.now) a)
    → MatchOption s (IsInspected i None b) (λ x. IsInspected i (Some x.now) b)
retold_given i None a b same alone is = retold i None a b same alone is
retold_given i (Some x) a b same alone is = retold i (Some x.now) a b same alone is
