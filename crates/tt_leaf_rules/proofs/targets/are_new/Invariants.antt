use Rattle.std.proofs.Common.{◌≡◌, length}
use Rattle.std.specs.Prelude.{All, flat_map}
use Rattle.tt_leaf_rules.specs.Inner.NumberSet.{are_new, places_of, IsPlaced}
use Rattle.tt_leaf_rules.specs.Tests.{claims_once}
use Rattle.tt_leaf_rules.proofs.targets.are_new.Given as goal

abbrev pub invariant-loop-first : goal.invariant-loop-first
invariant-loop-first l = record { same : claims_once l.claims ≡ are_new l.taken (flat_map places_of l.rest); placed : All IsPlaced l.rest }

abbrev pub decreases-loop-first : goal.decreases-loop-first
decreases-loop-first l = length l.rest
