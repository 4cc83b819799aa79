use Rattle.std.proofs.Common.{◌≡◌, ◌++◌}
use Rattle.tt_leaf_find.specs.Best.{capacity_claims, worth}
use Rattle.tt_list_laws.specs.Words.{range_below}
use Rattle.tt_leaf_find.proofs.best.push_capacity.Given as goal

abbrev pub invariant-loop-course : goal.invariant-loop-course
invariant-loop-course g l =
    let p = g.P.Path.problem l.path in
    let facts = g.P.Path.facts l.path in
    l.claims.items ≡ l.fn.claims.items ++ worth p facts (capacity_claims p facts (range_below l.course))
