use Rattle.std.proofs.Common.{◌≡◌, length}
use Rattle.std.specs.Prelude.{All}
use Rattle.tt_leaf_rules.specs.Inner.Nested.{IsOnce}
use Rattle.tt_leaf_rules.specs.Tests.{claims_once}
use Rattle.tt_leaf_rules.proofs.targets.are_pairwise_apart.Given as goal

abbrev pub invariant-loop-first : goal.invariant-loop-first
invariant-loop-first l = record { same : claims_once l.claims ≡ claims_once l.rest; once : All IsOnce l.rest }

abbrev pub decreases-loop-first : goal.decreases-loop-first
decreases-loop-first l = length l.rest
