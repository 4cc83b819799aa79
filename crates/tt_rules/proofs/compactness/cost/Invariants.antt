use Rattle.std.proofs.Common.{◌≡◌, ◌≤◌, ◌*◌}
use Rattle.std.specs.Prelude.{sum_by}
use Rattle.tt_list_laws.specs.Words.{range_below}
use Rattle.tt_rules.specs.Soft.{compactness_cost}
use Rattle.tt_rules.proofs.compactness.cost.Given as goal

abbrev pub invariant-loop-curriculum : goal.invariant-loop-curriculum
invariant-loop-curriculum l = record {
  summed : l.total ≡ sum_by (compactness_cost l.instance l.by_course.entries) (range_below l.curriculum);
  at_most : l.total ≤ l.curriculum * 32768;
}
