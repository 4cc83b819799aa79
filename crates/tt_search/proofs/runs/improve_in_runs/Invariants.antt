use Rattle.std.proofs.Common.{◌-◌, ◌/◌}
use Rattle.tt_walk.specs.Improved.{IsNoWorse}
use Rattle.tt_search.specs.Runs.{Runs}
use Rattle.tt_search.proofs.runs.improve_in_runs.Given as goal

abbrev pub invariant-loop-run : goal.invariant-loop-run
invariant-loop-run g l = record {
  kept : IsNoWorse l.instance l.initial.table l.table;
  in_runs : Runs l.instance l.initial.table (l.steps / 2) (l.steps - l.steps / 2) l.run l.table;
}
