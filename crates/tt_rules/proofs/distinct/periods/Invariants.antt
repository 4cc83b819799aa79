use Rattle.std.proofs.Common.{All, ◌+◌, ◌*◌}
use Rattle.std.specs.Prelude.{◌==◌}
use Rattle.std.specs.List.{list_any}
use Rattle.tt_instance.specs.Cells.{InRange}
use Rattle.tt_rules.proofs.Marking.{MarksTo}
use Rattle.tt_rules.proofs.distinct.periods.Given as goal

abbrev pub invariant-loop-entry : goal.invariant-loop-entry
invariant-loop-entry l = record {
  marks : MarksTo (λ k e. e.day * l.instance.periods + e.period == k)
      (λ k. list_any (λ e. e.day * l.instance.periods + e.period == k) l.fn.group) l.marks l.entry-iterator;
  left : All (InRange l.instance) l.entry-iterator;
}
