use Rattle.std.proofs.Common.{IfSome}
use Rattle.tt_parts.specs.Found.{AreFoundOn}
use Rattle.tt_parts.proofs.strongest.best_alone.Given as goal

abbrev pub invariant-loop-text : goal.invariant-loop-text
invariant-loop-text l = IfSome l.best (AreFoundOn l.instance l.root)
