use Rattle.std.proofs.Common.{ℕ, ◌∙◌, arith}
use Rattle.std.proofs.lemmas.List.{length-set, length-replicate}
use Rattle.tt_leaf_rules.proofs.Covering.{price_beyond, price_written, none_priced}
use Rattle.tt_leaf_rules.proofs.room_prices.RoomPrices.new.Goals as goal

pub loop-left-preserved-then-room-lt-ROOMS : goal.loop-left-preserved-then-room-lt-ROOMS
loop-left-preserved-then-room-lt-ROOMS c = record {
  len = length-set c.loop-left.prices _ _ ∙ c.loop-left.invariant.len;
  within = omega (arith, c.loop-left.invariant.within);
  priced = price_written c.loop-left.prices c.args.listed.now c.loop-left.left c.loop-left-test.true c.loop-left.invariant.within
      (omega (arith, c.if-room-lt-ROOMS.true, c.loop-left.invariant.len)) c.loop-left.invariant.priced;
}

pub loop-left-preserved : goal.loop-left-preserved
loop-left-preserved c = record {
  len = c.loop-left.invariant.len;
  within = omega (arith, c.loop-left.invariant.within);
  priced = price_beyond c.loop-left.prices c.args.listed.now c.loop-left.left c.loop-left-test.true c.loop-left.invariant.within
      c.if-room-lt-ROOMS.false c.loop-left.invariant.priced;
}

pub loop-left-init : goal.loop-left-init
loop-left-init c = record { len = length-replicate {A = ℕ} 512 0; within = omega arith; priced = none_priced c.args.listed.now }
