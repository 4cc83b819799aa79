use Rattle.std.proofs.Common.{◌≡◌, ℕ, ◌≤◌, List, true, None, is_some}
use Rattle.tt_text.specs.Feeds.{stream_of}
use Rattle.tt_text.specs.Fed.{is_ready}
use Rattle.tt_text.specs.CutShort.{cut_at, MayFail}
use Rattle.tt_text.proofs.Giving.{SameStream, room_left}
use Rattle.tt_text.proofs.feed.Feed.next_at_limits.Given as goal

abbrev pub invariant-loop-gap : goal.invariant-loop-gap
invariant-loop-gap g l = record {
  same : SameStream (stream_of l.fn.self (g.R.Source.remaining l.fn.source)) (stream_of l.self (g.R.Source.remaining l.source));
  known : is_some (g.R.Source.remaining l.fn.source) ≡ true → is_some (g.R.Source.remaining l.source) ≡ true;
  sound : l.self.fault ≡ None;
  failed : g.R.Source.has_failed l.source ≡ g.R.Source.has_failed l.fn.source;
  failing : is_some (g.R.Source.remaining l.fn.source) ≡ true → (rest : List ℕ) → MayFail rest l.self (g.R.Source.remaining l.source)
      → MayFail rest l.fn.self (g.R.Source.remaining l.fn.source)
      × (cut_at rest l.fn.self (g.R.Source.remaining l.fn.source) ≡ cut_at rest l.self (g.R.Source.remaining l.source));
  forward : l.fn.self.at ≤ l.self.at;
  ready : is_ready l.fn.self ≡ true → (l.self ≡ l.fn.self) × (l.source ≡ l.fn.source);
}

abbrev pub decreases-loop-gap : goal.decreases-loop-gap
decreases-loop-gap g l = room_left l.self
