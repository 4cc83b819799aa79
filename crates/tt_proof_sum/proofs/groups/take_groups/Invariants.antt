use Rattle.std.proofs.Common.{◌≡◌}
use Rattle.tt_text.specs.Feeds.{room_of}
use Rattle.tt_proof_sum.specs.Inner.Claiming.{Underway}
use Rattle.tt_proof_sum.proofs.groups.take_groups.Given as goal

abbrev pub invariant-loop-claim : goal.invariant-loop-claim
invariant-loop-claim g l = record {
  under : Underway l.instance (g.R.Source.remaining l.fn.source) l.fn.table l.reader
      (g.R.Source.remaining l.source) l.table l.number l.total;
  calm : g.R.Source.has_failed l.source ≡ g.R.Source.has_failed l.fn.source;
}

abbrev pub decreases-loop-claim : goal.decreases-loop-claim
decreases-loop-claim g l = room_of l.reader.fed
