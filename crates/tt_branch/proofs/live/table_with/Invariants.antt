use Rattle.std.proofs.Common.{◌≡◌, take}
use Rattle.tt_branch.proofs.live.table_with.Given as goal

abbrev pub invariant-loop-entry : goal.invariant-loop-entry
invariant-loop-entry l = l.table ≡ take l.entry-index l.entries
