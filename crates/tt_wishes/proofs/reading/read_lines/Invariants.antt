use Rattle.std.proofs.Common.{◌≡◌, length}
use Rattle.tt_wishes.specs.Reading.{wishes_after, wishes_of}
use Rattle.tt_wishes.proofs.reading.read_lines.Given as goal

abbrev pub invariant-loop-line : goal.invariant-loop-line
invariant-loop-line l = wishes_after l.named l.wishes.items l.lines ≡ wishes_of l.named l.bytes

abbrev pub decreases-loop-line : goal.decreases-loop-line
decreases-loop-line l = length l.lines
