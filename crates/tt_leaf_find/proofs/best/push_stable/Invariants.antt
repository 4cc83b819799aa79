use Rattle.std.proofs.Common.{◌≡◌, ◌++◌, map}
use Rattle.tt_leaf_find.specs.Best.{worth}
use Rattle.tt_leaf.specs.declared.leaf.Claim.TheVariants.{Stable}
use Rattle.tt_list_laws.specs.Words.{range_below}
use Rattle.tt_leaf_find.proofs.best.push_stable.Given as goal

abbrev pub invariant-loop-course : goal.invariant-loop-course
invariant-loop-course g l =
    let p = g.P.Path.problem l.path in
    let facts = g.P.Path.facts l.path in
    l.claims.items ≡ l.fn.claims.items ++ worth p facts (map Stable (range_below l.course))
