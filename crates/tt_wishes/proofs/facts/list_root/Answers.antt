use Rattle.std.proofs.Common.{take, ◌∙◌, ap}
use Rattle.std.proofs.lemmas.List.{take_all}
use Rattle.tt_wishes.specs.Facts.{facts_of_all}
use Rattle.tt_wishes.specs.declared.format.TheConstants.{MAX_ROOT}
use Rattle.tt_wishes.proofs.facts.list_root.Goals as goal

pub returns : goal.returns
returns c = c.truncate.ensures.items ∙ c.loop-wish.invariant ∙ ap (λ ws. take MAX_ROOT (facts_of_all c.args.instance.now ws))
    (take_all c.loop-wish.wish-index c.args.wishes.now c.loop-wish-test.false)
