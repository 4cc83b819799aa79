use Rattle.std.proofs.Common.{◌≡◌, ◌≤◌, ◌*◌, ◌^◌, take}
use Rattle.std.specs.Prelude.{sum_by}
use Rattle.tt_instance.specs.Cells.{all_slots}
use Rattle.tt_path.specs.Live.{least_excess}
use Rattle.tt_leaf_rules.specs.Inner.Nested.{above_least}
use Rattle.tt_leaf_rules.proofs.capacity.all_discounts.Given as goal

abbrev pub invariant-loop-place : goal.invariant-loop-place
invariant-loop-place g l =
    let p = g.P.Path.problem l.path in
    record {
      summed : l.total ≡ sum_by (λ s. above_least l.price (least_excess p (g.P.Path.facts l.path) l.course s)) (take l.place (all_slots p));
      at_most : l.total ≤ l.place * 2 ^ 32;
    }
