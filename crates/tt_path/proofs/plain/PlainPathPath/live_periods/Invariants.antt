use Rattle.std.proofs.Common.{◌≡◌, ℕ, ◌<◌, ◌&&◌}
use Rattle.std.specs.Prelude.{nat_lt}
use Rattle.tt_bits.specs.Inner.Bits.{has_bit}
use Rattle.tt_instance.specs.Cells.{slot}
use Rattle.tt_path.specs.Live.{live_period}
use Rattle.tt_path.proofs.plain.PlainPathPath.live_periods.Given as goal

abbrev pub invariant-loop-period : goal.invariant-loop-period
invariant-loop-period l = (s : ℕ) → s < 64
    → has_bit l.live s ≡ (nat_lt s l.period && live_period l.self.problem l.self.facts l.course (slot l.day s))
