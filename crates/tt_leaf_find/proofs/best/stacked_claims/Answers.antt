use Rattle.tt_leaf_find.proofs.best.stacked_claims.Goals as goal

pub returns-clause-leaf : goal.returns-clause-leaf
returns-clause-leaf g c = c.leaf_of.ensures.leaf
