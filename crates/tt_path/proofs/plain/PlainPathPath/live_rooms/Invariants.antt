use Rattle.std.proofs.Common.{◌≡◌, ℕ, ◌+◌, ◌<◌, ◌&&◌}
use Rattle.std.specs.Prelude.{nat_lt}
use Rattle.tt_bits.specs.Inner.Bits.{has_bit}
use Rattle.tt_instance.specs.Cells.{slot, cell}
use Rattle.tt_path.specs.Live.{is_live}
use Rattle.tt_path.proofs.plain.PlainPathPath.live_rooms.Given as goal

abbrev pub invariant-loop-number : goal.invariant-loop-number
invariant-loop-number l = (n : ℕ) → n < 64
    → has_bit l.live n ≡ (nat_lt n l.number && is_live l.self.problem l.self.facts (cell l.course (l.first + n) (slot l.day l.period)))
