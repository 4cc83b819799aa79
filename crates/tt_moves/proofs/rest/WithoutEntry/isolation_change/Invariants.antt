use Rattle.std.proofs.Common.{◌+◌, ◌*◌, ◌≤◌, List, take}
use Rattle.tt_instance.specs.declared.cell.Cell.{Cell}
use Rattle.tt_occupancy.specs.Inner.NeighbourCounts.{IsIsolationChange}
use Rattle.tt_moves.specs.Inner.Rests.{IsRest}
use Rattle.tt_table.specs.declared.table.TheConstants.{MAX_ENTRIES}
use Rattle.tt_moves.proofs.rest.WithoutEntry.isolation_change.Given as goal

abbrev pub invariant-loop-curriculum : goal.invariant-loop-curriculum
invariant-loop-curriculum l = record {
  isolation_change : (u : List Cell) → IsRest l.self u → IsIsolationChange l.self.occupied.now.problem u
      (take l.curriculum-index l.curriculum-items) l.entry.day l.entry.period l.isolation_change;
  alone_at_most : l.isolation_change.alone ≤ l.curriculum-index;
  joined_at_most : l.isolation_change.joined ≤ l.curriculum-index * (2 * (MAX_ENTRIES + 1));
}
