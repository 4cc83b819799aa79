use Rattle.std.proofs.Common.{◌≡◌}
use Rattle.tt_text.specs.Feeds.{room_of}
use Rattle.tt_prices_file.specs.Inner.Underway.{Underway}
use Rattle.tt_prices_file.proofs.check.check_prices.Given as goal

abbrev pub invariant-loop-item : goal.invariant-loop-item
invariant-loop-item g l = record {
  under : Underway l.instance (g.R.Source.remaining l.fn.source) l.reader (g.R.Source.remaining l.source) l.account;
  header : l.header ≡ l.reader.header;
  calm : g.R.Source.has_failed l.source ≡ g.R.Source.has_failed l.fn.source;
}

abbrev pub decreases-loop-item : goal.decreases-loop-item
decreases-loop-item g l = room_of l.reader.fed
