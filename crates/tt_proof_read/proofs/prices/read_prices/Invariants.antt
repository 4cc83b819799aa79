use Rattle.std.proofs.Common.{◌≡◌, ◌≤◌}
use Rattle.tt_text.specs.Feeds.{room_of}
use Rattle.tt_proof_read.specs.Inner.Contract.{state_of}
use Rattle.tt_proof_read.specs.Inner.Pricing.{price_lists_of, seen_of, AreTables, ArePriceLists}
use Rattle.tt_proof_read.specs.Reading.{seen_in, with_pair, next_pair_at, prices_at}
use Rattle.tt_proof_read.proofs.Underway.{IsUnderway}
use Rattle.tt_proof_read.proofs.prices.read_prices.Given as goal

abbrev pub invariant-loop-prices : goal.invariant-loop-prices
invariant-loop-prices g l = record {
  read : IsUnderway with_pair (next_pair_at l.sizes) (prices_at l.sizes) (state_of g.R.Source l.fn.feed l.fn.source)
      (state_of g.R.Source l.feed l.source) (price_lists_of l.prices);
  forward : room_of l.feed ≤ room_of l.fn.feed;
  tables : AreTables l.sizes l.tables;
  seen : seen_of l.tables ≡ seen_in (price_lists_of l.prices);
  within : ArePriceLists l.sizes (price_lists_of l.prices);
}

abbrev pub decreases-loop-prices : goal.decreases-loop-prices
decreases-loop-prices g l = room_of l.feed
