use Rattle.std.proofs.Common.{◌≡◌, ◌+◌, ◌*◌, ◌≤◌, length, take}
use Rattle.tt_instance.specs.Problem.{Problem}
use Rattle.tt_groups.specs.Prices.{PricedGroup}
use Rattle.tt_prices_check.specs.Inner.Fold.{AreWithin}
use Rattle.tt_prices_check.specs.Week.{Suits, all_moves}
use Rattle.tt_prices_check.proofs.Lowest.{IsLowTable}
use Rattle.tt_prices_check.proofs.Suiting.{IsReachedTable}
use Rattle.tt_prices_check.proofs.whole_week.least_week.Given as goal

abbrev pub invariant-loop-moves : goal.invariant-loop-moves
invariant-loop-moves l = record {
  whole : length l.table.items ≡ l.places;
  within : AreWithin (562949953421312 * l.moves-index) l.table.items;
  low : (p : Problem) (g : PricedGroup) → Suits p l.scale g l.digits.sizes.items l.digits.courses l.lists
      → IsLowTable p l.scale g l.moves-index l.table.items;
  reached : (p : Problem) (g : PricedGroup) → Suits p l.scale g l.digits.sizes.items l.digits.courses l.lists
      → IsReachedTable p l.scale g l.moves-index l.table.items;
  fewer : l.relaxations ≤ l.initial.relaxations;
  taken : l.initial.relaxations ≤ l.relaxations + l.digits.count * all_moves (take l.moves-index l.lists);
}
