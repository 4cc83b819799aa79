use Rattle.std.proofs.Common.{◌≡◌, ◌≤◌, ◌*◌, ◌&&◌, length}
use Rattle.std.specs.Prelude.{nat_lt, count_by}
use Rattle.tt_list_laws.specs.Words.{range_below}
use Rattle.tt_instance.specs.Cells.{slot}
use Rattle.tt_leaf_rules.specs.Inner.Nested.{live_in}
use Rattle.tt_leaf_rules.proofs.groups.open_in_period.Given as goal

abbrev pub invariant-loop-block : goal.invariant-loop-block
invariant-loop-block g l =
    let p = g.P.Path.problem l.path in
    record {
      counted : l.total ≡ count_by (λ r. nat_lt r (length p.rooms) && live_in p (g.P.Path.facts l.path) l.courses r
          (slot l.day l.period)) (range_below (l.block * 64));
      at_most : l.total ≤ l.block * 64;
    }
