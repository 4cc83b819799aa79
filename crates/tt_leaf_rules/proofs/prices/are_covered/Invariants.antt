use Rattle.std.proofs.Common.{◌≡◌, true, take}
use Rattle.std.specs.List.{list_all}
use Rattle.tt_leaf_rules.specs.Inner.Nested.{covered}
use Rattle.tt_leaf_rules.proofs.prices.are_covered.Given as goal

abbrev pub invariant-loop-priced : goal.invariant-loop-priced
invariant-loop-priced g l =
    list_all (covered (g.P.Path.problem l.path) (g.P.Path.facts l.path) l.rooms) (take l.priced-index l.courses) ≡ true
