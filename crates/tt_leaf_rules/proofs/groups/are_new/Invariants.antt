use Rattle.std.proofs.Common.{◌≡◌, length}
use Rattle.tt_list_laws.specs.Words.{are_distinct}
use Rattle.tt_leaf_rules.specs.Inner.NumberSet.{are_new}
use Rattle.tt_leaf.specs.Ranges.{AreBelow}
use Rattle.tt_leaf_rules.proofs.groups.are_new.Given as goal

abbrev pub invariant-loop-first : goal.invariant-loop-first
invariant-loop-first l = record { same : are_distinct l.courses ≡ are_new l.taken l.rest; below : AreBelow 2048 l.rest }

abbrev pub decreases-loop-first : goal.decreases-loop-first
decreases-loop-first l = length l.rest
