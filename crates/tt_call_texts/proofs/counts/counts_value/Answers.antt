use Rattle.std.proofs.Common.{◌≡◌, IfOk, subst}
use Rattle.serde_json.specs.Data.{Data}
use Rattle.serde_json.specs.View.{view}
use Rattle.tt_call_texts.specs.Counts.{counts_with}
use Rattle.tt_call_texts.proofs.counts.counts_value.Goals as goal

pub returns : goal.returns
returns c =
    subst (λ (d : Data). IfOk c.object_of.result (λ v. view v ≡ counts_with c.args.score.now d)) c.wishes_value-wishes.ensures
    c.object_of.ensures
