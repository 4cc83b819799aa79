use Rattle.std.proofs.Common.{◌≡◌, ℕ, ◌<◌, ◌&&◌, take}
use Rattle.std.specs.Prelude.{nat_lt}
use Rattle.tt_bits.specs.Inner.Bits.{has_bit}
use Rattle.tt_instance.specs.Cells.{slot}
use Rattle.tt_leaf_rules.specs.Inner.Nested.{live_for}
use Rattle.tt_leaf_rules.proofs.groups.open_on.Given as goal

abbrev pub invariant-loop-course : goal.invariant-loop-course
invariant-loop-course g l =
    let p = g.P.Path.problem l.path in
    (s : ℕ) → s < 64 → has_bit l.open s ≡ (nat_lt s p.periods && live_for p (g.P.Path.facts l.path) (take l.course-index l.courses)
    (slot l.day s))
