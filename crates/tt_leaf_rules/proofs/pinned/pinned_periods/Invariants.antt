use Rattle.std.proofs.Common.{◌≡◌, ◌≤◌, ◌*◌}
use Rattle.std.specs.Prelude.{sum_by}
use Rattle.tt_list_laws.specs.Words.{range_below}
use Rattle.tt_path.specs.Live.{pinned}
use Rattle.tt_leaf_rules.proofs.Week.{on_day}
use Rattle.tt_leaf_rules.proofs.pinned.pinned_periods.Given as goal

abbrev pub invariant-loop-day : goal.invariant-loop-day
invariant-loop-day g l =
    let p = g.P.Path.problem l.path in
    record {
      counted : l.total ≡ sum_by (on_day p (pinned p (g.P.Path.facts l.path) l.who)) (range_below l.day);
      at_most : l.total ≤ l.day * 64;
    }
