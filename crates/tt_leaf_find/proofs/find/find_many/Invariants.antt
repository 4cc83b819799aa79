use Rattle.std.proofs.Common.{ℕ, ◌<◌}
use Rattle.tt_leaf_rules.specs.Leaves.{IsRight}
use Rattle.tt_leaf.specs.declared.leaf.Leaf.TheVariants.{Many}
use Rattle.tt_leaf_find.proofs.find.find_many.Given as goal

abbrev pub invariant-loop-course : goal.invariant-loop-course
invariant-loop-course g l =
    (c : ℕ) → c < l.course → ¬ IsRight (g.P.Path.problem l.path) (g.P.Path.facts l.path) l.bound (Many c)
