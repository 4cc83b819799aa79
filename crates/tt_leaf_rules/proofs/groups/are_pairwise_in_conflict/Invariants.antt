use Rattle.std.proofs.Common.{◌≡◌, length}
use Rattle.tt_instance.specs.Courses.{conflict}
use Rattle.tt_list_laws.specs.Words.{each_two}
use Rattle.tt_leaf_rules.proofs.groups.are_pairwise_in_conflict.Given as goal

abbrev pub invariant-loop-first : goal.invariant-loop-first
invariant-loop-first l = each_two (conflict l.instance) l.courses ≡ each_two (conflict l.instance) l.rest

abbrev pub decreases-loop-first : goal.decreases-loop-first
decreases-loop-first l = length l.rest
