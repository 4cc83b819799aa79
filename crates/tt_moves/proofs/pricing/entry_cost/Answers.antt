use Rattle.std.proofs.Common.{refl, subst}
use Rattle.std.specs.Prelude.{remove}
use Rattle.tt_moves.specs.Pricing.{IsCost}
use Rattle.tt_moves.proofs.pricing.entry_cost.Goals as goal

pub cost_weight-requires : goal.cost_weight-requires
cost_weight-requires c =
    let rest = c.without-rest.ensures.rest in
    record { in_range = rest.gone; course = refl; rest = (remove c.args.occupied.now.entries c.args.entry, rest) }

pub returns : goal.returns
returns c =
    let u = remove c.args.occupied.now.entries c.args.entry in
    subst (λ r. IsCost r.occupied.now.problem u r.gone c.cost_weight.result) c.without-rest.ensures.value
    (c.cost_weight.ensures u c.without-rest.ensures.rest)
