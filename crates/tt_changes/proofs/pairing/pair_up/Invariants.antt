use Rattle.std.proofs.Common.{take}
use Rattle.tt_changes.specs.Inner.Pairings.{IsPaired}
use Rattle.tt_changes.proofs.pairing.pair_up.Given as goal

abbrev pub invariant-loop-entry : goal.invariant-loop-entry
invariant-loop-entry l = IsPaired l.likeness (take l.entry-index l.older) l.fn.newer.items l.pairs.items l.alone.items l.left.items
