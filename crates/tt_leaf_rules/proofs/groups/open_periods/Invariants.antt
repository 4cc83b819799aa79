use Rattle.std.proofs.Common.{◌≡◌, ◌≤◌, ◌*◌}
use Rattle.std.specs.Prelude.{sum_by}
use Rattle.tt_list_laws.specs.Words.{range_below}
use Rattle.tt_leaf_rules.specs.Inner.Nested.{live_for}
use Rattle.tt_leaf_rules.proofs.Week.{on_day}
use Rattle.tt_leaf_rules.proofs.groups.open_periods.Given as goal

abbrev pub invariant-loop-day : goal.invariant-loop-day
invariant-loop-day g l =
    let p = g.P.Path.problem l.path in
    record {
      counted : l.total ≡ sum_by (on_day p (live_for p (g.P.Path.facts l.path) l.courses)) (range_below l.day);
      at_most : l.total ≤ l.day * 64;
    }
