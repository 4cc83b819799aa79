use Rattle.std.proofs.Common.{◌≡◌, ◌*◌, false, replicate}
use Rattle.tt_instance_read.proofs.unavailabilities.no_marks.Given as goal

abbrev pub invariant-loop : goal.invariant-loop
invariant-loop l = l.marks.items ≡ replicate l.counter (replicate (l.days * 64) false)
