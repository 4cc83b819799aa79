use Rattle.std.proofs.Common.{◌≡◌, ◌≤◌, take}
use Rattle.tt_wishes.specs.Wishes.{broken_wishes}
use Rattle.tt_wishes.proofs.keeping.count_broken.Given as goal

abbrev pub invariant-loop-wish : goal.invariant-loop-wish
invariant-loop-wish l = record {
  counted : l.count ≡ broken_wishes l.entries (take l.wish-index l.wishes);
  small : l.count ≤ l.wish-index;
}
