use Rattle.std.proofs.Common.{◌≡◌, ℕ, ◌+◌, ◌<◌, ◌&&◌}
use Rattle.std.specs.Prelude.{nat_lt}
use Rattle.tt_bits.specs.Inner.Bits.{has_bit}
use Rattle.tt_instance.specs.Courses.{excess}
use Rattle.tt_leaf_rules.specs.Claims.{price_in}
use Rattle.tt_leaf_rules.proofs.prices.dear_rooms.Given as goal

abbrev pub invariant-loop-number : goal.invariant-loop-number
invariant-loop-number l =
    (n : ℕ) → n < 64
    → has_bit l.dear n ≡
    (nat_lt n l.number && nat_lt (excess l.instance l.priced.0 (l.first + n) + price_in l.prices (l.first + n)) l.priced.1)
