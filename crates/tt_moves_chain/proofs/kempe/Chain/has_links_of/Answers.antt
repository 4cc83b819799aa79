use Rattle.std.proofs.Common.{below_more, refl}
use Rattle.tt_moves_chain.proofs.kempe.Chain.has_links_of.Goals as goal

pub loop-other-preserved : goal.loop-other-preserved
loop-other-preserved c = below_more _ _ c.loop-other.invariant (c.if-not-has_link.ensures.0 refl)
