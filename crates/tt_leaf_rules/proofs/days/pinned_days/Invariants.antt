use Rattle.std.proofs.Common.{◌≡◌, ◌≤◌}
use Rattle.std.specs.Prelude.{count_by}
use Rattle.tt_list_laws.specs.Words.{range_below}
use Rattle.tt_leaf_rules.specs.Claims.{pinned_day}
use Rattle.tt_leaf_rules.proofs.days.pinned_days.Given as goal

abbrev pub invariant-loop-day : goal.invariant-loop-day
invariant-loop-day g l = record {
  counted : l.total ≡ count_by (pinned_day (g.P.Path.problem l.path) (g.P.Path.facts l.path) l.course) (range_below l.day);
  at_most : l.total ≤ l.day;
}
