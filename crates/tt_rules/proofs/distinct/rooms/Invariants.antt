use Rattle.std.proofs.Common.{All}
use Rattle.std.specs.List.{list_any}
use Rattle.tt_instance.specs.Cells.{InRange, is_in}
use Rattle.tt_rules.proofs.Marking.{MarksTo}
use Rattle.tt_rules.proofs.distinct.rooms.Given as goal

abbrev pub invariant-loop-entry : goal.invariant-loop-entry
invariant-loop-entry l = record {
  marks : MarksTo is_in (λ k. list_any (is_in k) l.fn.group) l.marks l.entry-iterator;
  left : All (InRange l.instance) l.entry-iterator;
}
