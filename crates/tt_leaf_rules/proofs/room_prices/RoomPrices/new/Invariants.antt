use Rattle.std.proofs.Common.{◌≡◌, ℕ, ◌<◌, ◌≤◌, length, drop, slice_index_or}
use Rattle.tt_leaf_rules.specs.Claims.{price_in}
use Rattle.tt_leaf_rules.proofs.room_prices.RoomPrices.new.Given as goal

abbrev pub invariant-loop-left : goal.invariant-loop-left
invariant-loop-left l = record {
  len : length l.prices ≡ 512;
  within : l.left ≤ length l.listed;
  priced : (r : ℕ) → r < 512 → slice_index_or l.prices r 0 ≡ price_in (drop l.left l.listed) r;
}

abbrev pub decreases-loop-left : goal.decreases-loop-left
decreases-loop-left l = l.left
