use Rattle.std.proofs.Common.{◌≡◌, false, take, All}
use Rattle.tt_changes.specs.Inner.Pairings.{are_alike}
use Rattle.tt_changes.proofs.pairing.take_alike.Given as goal

abbrev pub invariant-loop-index : goal.invariant-loop-index
invariant-loop-index l = record {
  same : l.newer.items ≡ l.fn.newer.items;
  passed : All (λ e. are_alike l.likeness l.older e ≡ false) (take l.index l.newer.items);
}
