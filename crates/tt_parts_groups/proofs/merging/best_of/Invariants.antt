-- The result found so far is one of them.
use Rattle.std.proofs.Common.{◌<◌, length, IfSome}
use Rattle.tt_parts_groups.proofs.merging.best_of.Given as goal

abbrev pub invariant-loop-place : goal.invariant-loop-place
invariant-loop-place l = IfSome l.found (λ k. k < length l.pairs)
