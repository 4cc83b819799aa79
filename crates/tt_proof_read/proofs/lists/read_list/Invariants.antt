use Rattle.std.proofs.Common.{◌≡◌, true, not}
use Rattle.std.specs.Prelude.{◌==◌}
use Rattle.std.specs.List.{push}
use Rattle.tt_list_laws.specs.Words.{each_two}
use Rattle.tt_leaf.specs.Ranges.{AreBelow}
use Rattle.tt_text.specs.Feeds.{room_of}
use Rattle.tt_proof_read.specs.Inner.Contract.{state_of}
use Rattle.tt_proof_read.specs.Reading.{listed_at, list_at}
use Rattle.tt_proof_read.proofs.Underway.{IsUnderway}
use Rattle.tt_proof_read.proofs.lists.read_list.Given as goal

abbrev pub invariant-loop-course : goal.invariant-loop-course
invariant-loop-course g l = record {
  read : IsUnderway push (listed_at l.sizes) (list_at l.sizes) (state_of g.R.Source l.fn.feed l.fn.source)
      (state_of g.R.Source l.feed l.source) l.seen.numbers;
  within : AreBelow l.sizes.courses l.seen.numbers;
  once : each_two (λ a b. not (a == b)) l.seen.numbers ≡ true;
  count : l.seen.count ≡ l.fn.seen.count;
}

abbrev pub decreases-loop-course : goal.decreases-loop-course
decreases-loop-course g l = room_of l.feed
