use Rattle.std.proofs.Common.{subst}
use Rattle.tt_moves.specs.Pricing.{IsCost}
use Rattle.tt_moves.proofs.exchanging.Exchange.cost_before.Goals as goal

pub returns : goal.returns
returns c = λ p u s t x.
    subst (λ z. IsCost z u c.args.self.now.rest.gone c.cost_weight.result) x.problem (c.cost_weight.ensures u x.rest)
