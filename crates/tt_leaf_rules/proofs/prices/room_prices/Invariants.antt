use Rattle.std.proofs.Common.{◌≡◌, ◌≤◌, ◌*◌, ◌^◌, cond, take}
use Rattle.std.specs.Prelude.{sum_by}
use Rattle.tt_instance.specs.Cells.{all_slots}
use Rattle.tt_leaf_rules.specs.Inner.Nested.{priced_live_in}
use Rattle.tt_leaf_rules.proofs.prices.room_prices.Given as goal

abbrev pub invariant-loop-place : goal.invariant-loop-place
invariant-loop-place g l =
    let p = g.P.Path.problem l.path in
    record {
      summed : l.total ≡ sum_by (λ s. sum_by (λ k. cond (priced_live_in p (g.P.Path.facts l.path) l.courses k.0 s) k.1 0) l.rooms)
          (take l.place (all_slots p));
      at_most : l.total ≤ l.place * (512 * 2 ^ 32);
    }
