use Rattle.std.proofs.Common.{◌≡◌, ◌-◌, ◌≤◌, length}
use Rattle.tt_table.specs.Reading.{entries_at, solution_of}
use Rattle.tt_table.proofs.reading.read_entries.Given as goal

abbrev pub invariant-loop-first : goal.invariant-loop-first
invariant-loop-first l = record {
  read : entries_at l.end l.named (16384 - length l.table) l.table l.tokens ≡ solution_of l.named l.bytes;
  within : length l.table ≤ 16384;
}

abbrev pub decreases-loop-first : goal.decreases-loop-first
decreases-loop-first l = 16384 - length l.table
