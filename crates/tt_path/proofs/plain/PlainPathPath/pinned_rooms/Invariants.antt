use Rattle.std.proofs.Common.{◌≡◌, ℕ, ◌+◌, ◌<◌, ◌&&◌}
use Rattle.std.specs.Prelude.{nat_lt}
use Rattle.tt_bits.specs.Inner.Bits.{has_bit}
use Rattle.tt_path.specs.Live.{pinned_room}
use Rattle.tt_path.proofs.plain.PlainPathPath.pinned_rooms.Given as goal

abbrev pub invariant-loop-number : goal.invariant-loop-number
invariant-loop-number l = (n : ℕ) → n < 64
    → has_bit l.pinned n ≡ (nat_lt n l.number && pinned_room l.self.problem l.self.facts l.course (l.first + n))
