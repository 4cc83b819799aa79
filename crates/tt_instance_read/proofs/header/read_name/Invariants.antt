use Rattle.std.proofs.Common.{◌≡◌, [], length}
use Rattle.tt_instance_read.specs.Reading.{name_at}
use Rattle.tt_instance.specs.Seen.{name_seen}
use Rattle.tt_instance_read.proofs.header.read_name.Given as goal

abbrev pub invariant-loop-token : goal.invariant-loop-token
invariant-loop-token l = name_at l.end (name_seen l.name.items) l.tokens ≡ name_at l.end [] l.fn.tokens

abbrev pub decreases-loop-token : goal.decreases-loop-token
decreases-loop-token l = length l.tokens
