use Rattle.std.proofs.Common.{sym, subst}
use Rattle.tt_moves.specs.Pricing.{IsEntryCost}
use Rattle.tt_walk.proofs.settled.has_lowering_sample.Goals as goal

pub cost_change-requires-clause-before : goal.cost_change-requires-clause-before
cost_change-requires-clause-before c =
    let o = c.args.occupied.now in
    subst (λ i. IsEntryCost o.problem o.entries i c.entry_cost-before.result) (sym c.in-Some.ensures.first) c.entry_cost-before.ensures
