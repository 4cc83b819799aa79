use Rattle.std.proofs.Common.{◌≡◌, not, length}
use Rattle.std.specs.Prelude.{◌==◌}
use Rattle.tt_list_laws.specs.Words.{each_two}
use Rattle.tt_leaf_rules.proofs.groups.are_pairwise_distinct.Given as goal

abbrev pub invariant-loop-first : goal.invariant-loop-first
invariant-loop-first l = each_two (λ a b. not (a == b)) l.courses ≡ each_two (λ a b. not (a == b)) l.rest

abbrev pub decreases-loop-first : goal.decreases-loop-first
decreases-loop-first l = length l.rest
