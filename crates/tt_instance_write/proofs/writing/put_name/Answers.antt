use Rattle.std.proofs.Common.{◌∙◌, ap, List, ℕ, Bor, ◌++◌}
use Rattle.std.proofs.lemmas.Result.{IfOk-equal}
use Rattle.tt_text.specs.Pieces.{Text}
use Rattle.tt_instance_read.specs.declared.fault.Word.TheVariants as word
use Rattle.tt_instance_read.specs.Words.{fixed}
use Rattle.tt_instance_write.proofs.Texts.{line_done}
use Rattle.tt_instance_write.proofs.writing.put_name.Goals as goal

pub returns : goal.returns
returns c =
    IfOk-equal c.put_end.result _ _ _ c.put_end.ensures
    (line_done (λ (t : Bor (List ℕ)). t.now) Text (fixed word.Name) c.args.name.now c.loop-token.token-index c.args.out.now.items
    c.put_token.new.out.items c.loop-token.out.items
    (c.in_ok-put_token.ensures.ok ∙ ap (λ (t : List ℕ). c.args.out.now.items ++ t) c.text.ensures) c.loop-token.invariant
    c.loop-token-test.false)
