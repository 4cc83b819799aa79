use Rattle.std.proofs.Common.{◌≡◌, true, take}
use Rattle.std.specs.Prelude.{All}
use Rattle.tt_leaf_rules.specs.Leaves.{IsRight}
use Rattle.tt_leaf.specs.declared.leaf.Leaf.TheVariants.{Empty}
use Rattle.tt_leaf_find.proofs.find.find_empty.Given as goal

abbrev pub invariant-loop-index : goal.invariant-loop-index
invariant-loop-index g l =
    let p = g.P.Path.problem l.path in
    let facts = g.P.Path.facts l.path in
    All (λ f. f.holds ≡ true → ¬ IsRight p facts l.bound (Empty f.pattern)) (take l.index facts)
