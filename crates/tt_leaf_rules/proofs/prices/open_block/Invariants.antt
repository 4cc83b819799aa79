use Rattle.std.proofs.Common.{◌≡◌, ℕ, ◌+◌, ◌*◌, ◌<◌, ◌&&◌, take, length}
use Rattle.std.specs.Prelude.{nat_lt}
use Rattle.tt_bits.specs.Inner.Bits.{has_bit}
use Rattle.tt_instance.specs.Cells.{slot}
use Rattle.tt_leaf_rules.specs.Inner.Nested.{priced_live_in}
use Rattle.tt_leaf_rules.proofs.prices.open_block.Given as goal

abbrev pub invariant-loop-course : goal.invariant-loop-course
invariant-loop-course g l =
    let p = g.P.Path.problem l.path in
    (n : ℕ) → n < 64 → has_bit l.open n ≡ (nat_lt (l.block * 64 + n) (length p.rooms) && priced_live_in p (g.P.Path.facts l.path)
    (take l.course-index l.courses) (l.block * 64 + n) (slot l.day l.period))
