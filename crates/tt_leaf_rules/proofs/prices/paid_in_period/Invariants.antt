use Rattle.std.proofs.Common.{◌≡◌, ◌≤◌, ◌*◌, ◌^◌, cond, take}
use Rattle.std.specs.Prelude.{sum_by}
use Rattle.tt_instance.specs.Cells.{slot}
use Rattle.tt_leaf_rules.specs.Inner.Nested.{priced_live_in}
use Rattle.tt_leaf_rules.proofs.prices.paid_in_period.Given as goal

abbrev pub invariant-loop-room : goal.invariant-loop-room
invariant-loop-room g l = record {
  summed : l.total ≡ sum_by
      (λ k. cond (priced_live_in (g.P.Path.problem l.path) (g.P.Path.facts l.path) l.courses k.0 (slot l.day l.period)) k.1 0)
      (take l.room-index l.rooms);
  at_most : l.total ≤ l.room-index * 2 ^ 32;
}
