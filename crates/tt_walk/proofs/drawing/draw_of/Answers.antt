use Rattle.std.proofs.Common.{sym, subst}
use Rattle.tt_moves.specs.Pricing.{IsEntryCost}
use Rattle.tt_walk.proofs.drawing.draw_of.Goals as goal

pub allowed_change-requires-clause-before : goal.allowed_change-requires-clause-before
allowed_change-requires-clause-before c =
    let o = c.args.occupied.now in
    subst (λ i. IsEntryCost o.problem o.entries i c.entry_cost-before.result) (sym c.in-Some.ensures.first) c.entry_cost-before.ensures
