use Rattle.std.proofs.Common.{◌≡◌, ℕ, ◌*◌, ◌<◌, true, length}
use Rattle.tt_leaf_rules.specs.Inner.Nested.{covered_in}
use Rattle.tt_leaf_rules.proofs.prices.is_covered.Given as goal

abbrev pub invariant-loop-block : goal.invariant-loop-block
invariant-loop-block g l =
    let p = g.P.Path.problem l.path in
    (r : ℕ) → r < l.block * 64 → r < length p.rooms → covered_in p (g.P.Path.facts l.path) l.prices l.priced r ≡ true
