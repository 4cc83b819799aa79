use Rattle.std.proofs.Common.{List, ℕ, sym, subst}
use Rattle.std.proofs.lemmas.Result.{IfOk-weaker}
use Rattle.tt_instance.specs.Problem.{Problem}
use Rattle.tt_instance.specs.Limits.{IsInstance}
use Rattle.tt_instance.specs.Seen.{problem_seen}
use Rattle.tt_instance.specs.Spelling.{Spells}
use Rattle.tt_instance_write.specs.Writing.{instance_text}
use Rattle.tt_instance_write.proofs.WrittenLaws.{written_again}
use Rattle.tt_instance_write.proofs.writing.write_instance.Goals as goal

pub returns-clause-again : goal.returns-clause-again
returns-clause-again c =
    let p = problem_seen c.parts.result.now in
    let instance : IsInstance p = subst IsInstance (sym c.parts.ensures.value) c.parts.ensures.instance in
    let spelled = subst (λ (q : Problem). Spells (instance_text p) q) c.parts.ensures.value (written_again p instance) in
    IfOk-weaker c.write_parts.result _ (λ t. Spells t.items c.args.instance.now)
    (λ t is. subst (λ (bytes : List ℕ). Spells bytes c.args.instance.now) (sym is) spelled) c.write_parts.ensures
