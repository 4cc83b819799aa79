-- The answer of `parts` for the bytes of an instance.
use Rattle.std.specs.Prelude.{◌≡◌, ℕ, List, length}
use Rattle.tt_instance.specs.Problem.{Problem}
use Rattle.tt_instance.specs.Spelling.{Spells}
use Rattle.tt_leaf.specs.declared.leaf.Bound.{Bound}
use Rattle.tt_proof_check.specs.Derives.{HoldsOfAll}
use Rattle.tt_proof_sum.specs.Sums.{IsSum}
use Rattle.tt_parts.specs.Found.{texts_of}
use Rattle.tt_call_answers.specs.Lines.{parts_line}
use Rattle.tt_call_searches.specs.declared.calls.parts.PartsAnswer.{PartsAnswer}

-- Each proof spells a right proof, no two of them claim the same target, and the line has the sum, which holds for every feasible timetable.
pub record IsParted (instance : List ℕ) (a : PartsAnswer) : Type 0 where
  pub problem : Problem
  pub spelled : Spells instance problem
  pub bound : Bound
  pub sum : IsSum problem (texts_of a.proofs.items) bound
  pub holds : HoldsOfAll problem bound
  pub text : a.out.items ≡ parts_line bound (length a.proofs.items)
