use Rattle.std.proofs.Common.{◌≡◌, ◌++◌, map}
use Rattle.tt_leaf_find.specs.Best.{worth}
use Rattle.tt_leaf.specs.declared.leaf.Claim.TheVariants.{Compact}
use Rattle.tt_list_laws.specs.Words.{range_below}
use Rattle.tt_leaf_find.proofs.best.push_compact.Given as goal

abbrev pub invariant-loop-curriculum : goal.invariant-loop-curriculum
invariant-loop-curriculum g l =
    let p = g.P.Path.problem l.path in
    let facts = g.P.Path.facts l.path in
    l.claims.items ≡ l.fn.claims.items ++ worth p facts (map Compact (range_below l.curriculum))
