use Rattle.std.proofs.Common.{◌≡◌, [], length}
use Rattle.tt_wishes.specs.Reading.{rooms_after}
use Rattle.tt_wishes.proofs.parts.read_rooms.Given as goal

abbrev pub invariant-loop-word : goal.invariant-loop-word
invariant-loop-word l = rooms_after l.named l.rooms.items l.words ≡ rooms_after l.named [] l.initial.words

abbrev pub decreases-loop-word : goal.decreases-loop-word
decreases-loop-word l = length l.words
